-- Where units stand behind the header, and what a walk over them gives.
use Rattle.std.proofs.Common.{◌≡◌, ℕ, ◌+◌, List, [], ◌∷◌, ◌++◌, length, take, drop, None, Ok, Err, sym, refl, ap, ◌∙◌, append_assoc, append-nil, arith, length-append}
use Rattle.std.proofs.lemmas.List.{take_at, drop_at, drop-drop}
use Rattle.std.proofs.lemmas.Bool.Decides.{nat_tests as tests}
use Rattle.catalogue.specs.declared.Direction.{Direction}
use Rattle.catalogue.specs.Meaning.{Meaning}
use Rattle.catalogue.specs.Laws.{Lawful}
use Rattle.element.specs.declared.reader.ReaderFault.TheVariants.{RunsPast}
use Rattle.element.specs.Outer.{Outer, LawfulOuter, header}
use Rattle.element.specs.Units.{Octets, ElementUnit, width, size, written, all_written}
use Rattle.element.specs.Reading.{stands, front, whole, declined, reads}
use Rattle.element.specs.Places.{place_from, place_after, Places}
use Rattle.element.specs.Walk.{Found, found_at, Gives, WalkLaw}
use Rattle.element.proofs.Fronts.{front_read}
use Rattle.element.proofs.RoundTrips.{reading_is}

module _ (m : Meaning) (d : Direction) where
  written-++ : (xs ys : List ElementUnit) → all_written m d (xs ++ ys) ≡ all_written m d xs ++ all_written m d ys
  written-++ [] ys = refl
  written-++ (x ∷ xs) ys = grind (arith, append_assoc, written-++ xs ys)

  place_one_more : (p : ℕ) (before : List ElementUnit) (u : ElementUnit) → place_from m d p (before ++ u ∷ []) ≡ place_from m d p before + size m d u
  place_one_more p [] u = refl
  place_one_more p (x ∷ before) u = place_one_more (p + size m d x) before u

  module _ (law : Lawful m) where
    -- places count octets
    pub place_counts : (p : ℕ) (us : List ElementUnit) → place_from m d p us ≡ p + length (all_written m d us)
    place_counts p [] = omega arith
    place_counts p (u ∷ us) = let w = law.width d u.identifier in grind (arith, tests, place_counts (p + size m d u) us, length-append)

    -- behind the header and whole units
    pub behind : (outer : Outer) (e : List ℕ) (before : List ElementUnit) (rest : List ℕ) → drop (header outer) e ≡ all_written m d before ++ rest → drop (place_after m d outer before) e ≡ rest
    behind outer e before rest q =
        let n = length (all_written m d before) in
        cc (place_counts (header outer) before, drop-drop n (header outer) e, drop_at (all_written m d before) rest n refl)

    -- behind the header stand the units us, and then what is left
    module _ (outer : Outer) (e : List ℕ) (us : List ElementUnit) (left : List ℕ) (tiled : drop (header outer) e ≡ all_written m d us ++ left) where
      standing : (before : List ElementUnit) (u : ElementUnit) (after : List ElementUnit) → us ≡ before ++ u ∷ after → drop (place_after m d outer before) e ≡ written m d u ++ (all_written m d after ++ left)
      standing before u after q =
          behind outer e before (written m d u ++ (all_written m d after ++ left))
          (tiled ∙ rw (q, written-++ before (u ∷ after)) (simp append_assoc))

      inside : (before : List ElementUnit) (u : ElementUnit) (after : List ElementUnit) → us ≡ before ++ u ∷ after → take (length u.contents) (drop (place_after m d outer before + 2 + width m d u) e) ≡ u.contents
      inside before u after q =
          let s = standing before u after q in
          let w = law.width d u.identifier in
          let n = drop-drop (2 + width m d u) (place_after m d outer before) e in
          let t = take_at u.contents (all_written m d after ++ left) (length u.contents) refl in
          grind (arith, tests, append_assoc)

      -- a walk gives those units, and then what is found at what is left
      pub gives : (last : Found) → found_at m d (place_after m d outer us) (front m d left) ≡ last → Gives m d outer e us last
      gives last q =
          record {
            units = λ before u after s. let f = at before u after s in cc;
            steps =
                λ before u after s.
                let f = at before u after s in let p = place_one_more (header outer) before u in grind arith;
            end = let l = behind outer e us left tiled in cc;
          }
        where
          at : (before : List ElementUnit) (u : ElementUnit) (after : List ElementUnit) → us ≡ before ++ u ∷ after → front m d (drop (place_after m d outer before) e) ≡ stands u (all_written m d after ++ left)
          at before u after s = ap (front m d) (standing before u after s) ∙ front_read m d u (all_written m d after ++ left)

    module _ (outer : Outer) (lawful : LawfulOuter outer) (e : List ℕ) (octets : Octets e) where
      module _ (o : ℕ) (us : List ElementUnit) (r : reads m d outer e ≡ whole o us) where
        -- the header of the element, and what is behind it
        pub header_found : (drop (header outer) e ≡ all_written m d us) × (length e ≡ header outer + length (all_written m d us))
        header_found = let same = (reading_is outer lawful m d e octets (whole o us) r).0 in let two = lawful.one_or_two in grind (arith, tests)

        tiled : drop (header outer) e ≡ all_written m d us ++ []
        tiled = header_found.0 ∙ sym (append-nil (all_written m d us))

        pub places : Places m d outer e us
        places =
            record {
              first = refl;
              next = λ before u after q. omega (arith, place_one_more (header outer) before u);
              last = place_counts (header outer) us ∙ sym header_found.1;
              octets = λ before u after q. rw append-nil at (standing outer e us [] tiled before u after q);
              contents = inside outer e us [] tiled;
            }

      up_to_fault : (p : ℕ) → reads m d outer e ≡ declined (RunsPast p) → (us : List ElementUnit) × (place_after m d outer us ≡ p) × Gives m d outer e us (Err (RunsPast p))
      up_to_fault p r =
          let stuck = (reading_is outer lawful m d e octets (declined (RunsPast p)) r).1 in
          (stuck.0, sym stuck.3, gives outer e stuck.0 stuck.1 (sym stuck.2) (Err (RunsPast p)) (cc))

      pub walk_law : WalkLaw m d outer e
      walk_law = record { over_whole = λ o us r. gives outer e us [] (tiled o us r) (Ok None) refl; up_to_fault = up_to_fault }
