-- How many units an element has at the most.
use Rattle.std.proofs.Common.{◌≡◌, ℕ, ◌+◌, ◌*◌, ◌≤◌, List, [], ◌∷◌, length, refl, arith}
use Rattle.catalogue.specs.declared.Direction.{Direction}
use Rattle.catalogue.specs.Meaning.{Meaning}
use Rattle.catalogue.specs.Laws.{Lawful}
use Rattle.element.specs.Outer.{Outer, LawfulOuter, header}
use Rattle.element.specs.Units.{Octets, ElementUnit, size}
use Rattle.element.specs.Reading.{Reading, whole, declined, reads, units_of}
use Rattle.element.specs.Places.{place_from}
use Rattle.element.proofs.RoundTrips.{reading_is}
use Rattle.element.proofs.Places.{places}
use Rattle.judge.specs.Judging.{most_units}

module _ (m : Meaning) (law : Lawful m) (d : Direction) where
  -- units that stand from the place p on take three octets each, or more
  take_three : (p : ℕ) (us : List ElementUnit) → p + 3 * length us ≤ place_from m d p us
  take_three p [] = omega arith
  take_three p (u ∷ us) = grind (arith, law.width d u.identifier, take_three (p + size m d u) us)

  module _ (outer : Outer) (lawful : LawfulOuter outer) (e : List ℕ) (octets : Octets e) where
    few_by : (r : Reading) → reads m d outer e ≡ r → length (units_of r) ≤ most_units outer
    few_by (declined f) q = omega arith
    few_by (whole o us) q =
        omega (arith, take_three (header outer) us, (places m d law outer lawful e octets o us q).last, (reading_is outer lawful m d e octets (whole o us) q).1.fits)

    pub few : length (units_of (reads m d outer e)) ≤ most_units outer
    few = few_by (reads m d outer e) refl
