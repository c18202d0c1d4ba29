use Rattle.std.proofs.Common.{◌≡◌, ◌++◌, string_bytes}
use Rattle.element.specs.Handed.{left_of}
use Rattle.listing.specs.Lines.{heading}
use Rattle.listing.specs.Listing.{ended, placed_lines}
use Rattle.listing.proofs.text.list_whole.Given as goal

-- the lines written and those to come are the heading and the lines of all units
abbrev pub invariant-loop-unit : goal.invariant-loop-unit
invariant-loop-unit g l =
    string_bytes l.text ++ placed_lines (left_of g.C.Catalogue l.unit-iterator) ≡ ended heading ++ placed_lines (left_of g.C.Catalogue l.fn.units)
