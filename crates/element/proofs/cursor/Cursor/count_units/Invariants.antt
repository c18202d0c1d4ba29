use Rattle.std.specs.Result.{result_map_both}
use Rattle.std.proofs.Common.{◌≡◌, ◌+◌, ◌≤◌, length, drop}
use Rattle.element.specs.Counts.{counted}
use Rattle.element.specs.Walk.{walk_of, cut_on}
use Rattle.element.proofs.cursor.Cursor.count_units.Given as goal

-- the units counted and those to come are all that stood from the cursor on; each takes an octet or more
abbrev pub invariant-loop-units : goal.invariant-loop-units
invariant-loop-units g l = record {
  whole : result_map_both (λ n. l.units + n) (λ f. f) (counted (cut_on (walk_of g.C.Catalogue.meaning l.cursor))) ≡ counted (cut_on (walk_of g.C.Catalogue.meaning l.fn.self));
  room : l.units + length (drop l.cursor.place l.cursor.octets.now) ≤ length l.fn.self.octets.now;
}

abbrev pub decreases-loop-units : goal.decreases-loop-units
decreases-loop-units g l = length (drop l.cursor.place l.cursor.octets.now)
