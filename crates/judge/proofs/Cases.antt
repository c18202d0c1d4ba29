-- The worked cases compute.
use Rattle.std.proofs.Common.{◌≡◌, ℕ, [], ◌∷◌, refl, rules}
use Rattle.catalogue.specs.declared.Direction.TheVariants.{ToModem}
use Rattle.catalogue.specs.Meaning.{Meaning}
use Rattle.catalogue.specs.Editions.{short, long}
use Rattle.element.specs.Outer.{options}
use Rattle.element.specs.Units.{ElementUnit, unit}
use Rattle.element.specs.Reading.{whole, reads}
use Rattle.judge.specs.Verdicts.{TurnedAside, NotRead, verdict_in}
use Rattle.judge.specs.Changes.{remove, insert, overwrite, alter}
use Rattle.judge.specs.Cases.{flag_between, servers, EachChange, WorkedCases}

abbrev one : ElementUnit
one = unit 0x000D (0xC0 ∷ 0x00 ∷ 0x02 ∷ 0x35 ∷ [])

abbrev other : ElementUnit
other = unit 0x000D (0xC0 ∷ 0x00 ∷ 0x02 ∷ 0x36 ∷ [])

abbrev flag : ℕ → ElementUnit
flag x = unit 0x0002 (x ∷ [])

-- the changes, under a catalogue that reads the elements so and turns the flag aside unread
changes : (m : Meaning) → ((x : ℕ) → reads m ToModem options (flag_between x) ≡ whole 0x80 (one ∷ flag x ∷ other ∷ [])) → ((o : ℕ) → reads m ToModem options (servers o) ≡ whole o (one ∷ other ∷ [])) → TurnedAside (verdict_in m ToModem (one ∷ []) (flag 0xAA) (other ∷ [])) → NotRead (verdict_in m ToModem (one ∷ []) (flag 0xAA) (other ∷ [])) → EachChange m
changes m between alone aside unread =
    record {
      removed = remove 0x80 (one ∷ []) (flag 0xAA) (other ∷ []) (between 0xAA) (alone 0x80) aside;
      inserted = insert 0x80 (one ∷ []) (flag 0xAA) (other ∷ []) (alone 0x80) (between 0xAA) aside;
      overwritten = overwrite 0x80 (one ∷ []) 0x0002 (0xAA ∷ []) (0x55 ∷ []) (other ∷ []) (between 0xAA) (between 0x55) refl unread;
      altered = alter 0x80 0x00 (one ∷ other ∷ []) (alone 0x80) (alone 0x00);
    }

pub worked_cases : WorkedCases
worked_cases = search (rules, changes short (λ x. refl) (λ o. refl) tt tt, changes long (λ x. refl) (λ o. refl) tt tt)
