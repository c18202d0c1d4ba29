-- Each row that judge writes is its unit's: place, identifier, the place and number of its contents octets, verdict.
use Rattle.std.specs.Prelude.{◌≡◌, ◌+◌, List, ◌∷◌, ◌++◌, length, Some}
use Rattle.catalogue.specs.declared.Direction.{Direction}
use Rattle.catalogue.specs.Meaning.{Meaning}
use Rattle.element.specs.Outer.{Outer}
use Rattle.element.specs.Units.{ElementUnit, width}
use Rattle.element.specs.Places.{place_after}
use Rattle.judge.specs.Verdicts.{verdict_in}
use Rattle.judge.specs.Judging.{judged_unit, rows_of}
use Rattle.judge.specs.Changes.{nth}

pub record RowsAreTheUnits (m : Meaning) (d : Direction) (outer : Outer) : Type 0 where
  pub one_each : (us : List ElementUnit) → length (rows_of m d outer us) ≡ length us
  pub row : (before : List ElementUnit) (u : ElementUnit) (after : List ElementUnit) → nth (rows_of m d outer (before ++ u ∷ after)) (length before) ≡ Some (judged_unit (place_after m d outer before) u.identifier (place_after m d outer before + 2 + width m d u) (length u.contents) (verdict_in m d before u after))
