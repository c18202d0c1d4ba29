-- Rows written one after the other are the rows of the element's units.
use Rattle.std.proofs.Common.{◌≡◌, ℕ, ◌+◌, ◌<◌, ◌≤◌, Bool, List, [], ◌∷◌, ◌++◌, length, get_or, drop, set, sym, refl, ap, ◌∙◌, append_assoc, arith}
use Rattle.std.proofs.lemmas.List.{length_push, drop_more, set_at}
use Rattle.std.proofs.lemmas.Grind.{common_steps}
use Rattle.element.specs.Units.{ElementUnit, size}
use Rattle.element.specs.Walk.{Placed, Walk, placed_from}
use Rattle.element.specs.Left.{units_on, units_left}
use Rattle.judge.specs.declared.judging.JudgedUnit.{JudgedUnit}
use Rattle.judge.specs.declared.verdicts.Verdict.{Verdict}
use Rattle.judge.specs.Verdicts.{verdict, filled_after, verdicts_from}
use Rattle.judge.specs.Rooms.{all_free, met_on, verdict_on, left_on}
use Rattle.judge.specs.Judging.{judged_unit, rows_from, rows_on}
use Rattle.judge.proofs.Counting.{Agrees, agrees_none, verdict_same, agrees_after}
use Rattle.element.proofs.Walk.{unit_of}

-- the place n of the rows old, behind the rows done, gets the row r
set_next : (done old rows : List JudgedUnit) (n : ℕ) (r : JudgedUnit) → length done ≡ n → rows ≡ done ++ drop n old → n < length old → set rows n r ≡ (done ++ r ∷ []) ++ drop (n + 1) old
set_next done old rows n r long was h =
    simp (was, drop_more old n r h, set_at done (get_or old n r) (drop (n + 1) old) r n long, append_assoc)

-- the row of a unit where it stands
abbrev pub row_at : Placed → Verdict → JudgedUnit
row_at u v = judged_unit u.place u.identifier u.start (length u.contents) v

module _ (w : Walk) where
  abbrev meets : ℕ → Bool
  meets = met_on w

  abbrev after : List ℕ → Placed → List ℕ
  after filled p = filled_after w.meaning w.direction meets filled (unit_of p)

  -- the rows of units where they stand, after accepted units of the slots `filled`
  abbrev rows_placed : List ℕ → List Placed → List JudgedUnit
  rows_placed filled [] = []
  rows_placed filled (p ∷ ps) = row_at p (verdict w.meaning w.direction meets filled (unit_of p)) ∷ rows_placed (after filled p) ps

  rows_placed-from : (filled : List ℕ) (p : ℕ) (us : List ElementUnit) → rows_placed filled (placed_from w.meaning w.direction p us) ≡ rows_from w.meaning w.direction p (verdicts_from w.meaning w.direction meets filled us) us
  rows_placed-from filled p [] = refl
  rows_placed-from filled p (u ∷ us) =
      simp (rows_placed-from (filled_after w.meaning w.direction meets filled u) (p + size w.meaning w.direction u) us)

  module _ (old : List JudgedUnit) where
    -- n rows are written, the units ps are to come, and so much is left in the slots
    pub record Written (ps : List Placed) (left : List ℕ) (n : ℕ) (rows : List JudgedUnit) : Type 0 where
      pub filled : List ℕ
      pub done : List JudgedUnit
      pub agrees : Agrees left filled
      pub so_many : length done ≡ n
      pub in_all : n + length ps ≡ length (units_left w)
      pub rows_are : rows ≡ done ++ drop n old
      pub in_order : done ++ rows_placed filled ps ≡ rows_on w

    pub written_none : (ps : List Placed) (left : List ℕ) (n : ℕ) → ps ≡ units_left w → left ≡ all_free → n ≡ 0 → Written ps left n old
    written_none ps left n all free zero =
        record {
          filled = [];
          done = [];
          agrees = rw free agrees_none;
          so_many = sym zero;
          in_all = omega (arith, ap length all, zero);
          rows_are = rw zero;
          in_order = ap (rows_placed []) all ∙ rows_placed-from [] w.position.place (units_on w);
        }

    module _ (ps : List Placed) (left : List ℕ) (n : ℕ) (rows : List JudgedUnit) (so : Written ps left n rows) where
      module _ (u : Placed) (qs : List Placed) (one : ps ≡ u ∷ qs) where
        pub written_more : length (units_left w) ≤ length old → (r : JudgedUnit) → r ≡ row_at u (verdict_on w left (unit_of u)) → (new : List ℕ) → new ≡ left_on w left (unit_of u) → Written qs new (n + 1) (set rows n r)
        written_more h r is new e =
            let x = unit_of u in
            let f = so.filled in
            let row : r ≡ row_at u (verdict w.meaning w.direction meets f x) = cc (verdict_same w.meaning w.direction meets left f so.agrees x) in
            record {
              filled = after f u;
              done = so.done ++ r ∷ [];
              agrees = rw e (agrees_after w.meaning w.direction meets left f so.agrees x);
              so_many = omega (arith, length_push so.done r, so.so_many);
              in_all = omega (arith, so.in_all, ap length one);
              rows_are = set_next so.done old rows n r so.so_many so.rows_are (omega (arith, h, so.in_all, ap length one));
              in_order = simp (append_assoc, row) (rw one at so.in_order);
            }

      pub written_all : ps ≡ [] → rows ≡ rows_on w ++ drop (length (units_left w)) old
      written_all none = grind (arith, common_steps, so.so_many, so.in_all, so.rows_are, so.in_order)
