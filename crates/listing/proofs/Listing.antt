-- The lines of units, and the listing of a whole element.
use Rattle.std.proofs.Common.{◌≡◌, ℕ, ◌+◌, List, [], ◌∷◌, ◌++◌, length, sym, refl, ap, ◌∙◌, ap₂}
use Rattle.catalogue.specs.declared.Direction.{Direction}
use Rattle.catalogue.specs.Meaning.{Meaning}
use Rattle.element.specs.Outer.{options, header}
use Rattle.element.specs.Units.{ElementUnit, size}
use Rattle.element.specs.Walk.{Walk, placed, placed_from}
use Rattle.element.specs.Left.{units_on, units_left, HandsOut}
use Rattle.listing.specs.Lines.{heading, unit_line, count_line}
use Rattle.listing.specs.Listing.{ended, placed_lines, unit_lines, listing_by, listing}

placed_lines-from : (m : Meaning) (d : Direction) (p : ℕ) (us : List ElementUnit) → placed_lines (placed_from m d p us) ≡ unit_lines m d p us
placed_lines-from m d p [] = refl
placed_lines-from m d p (u ∷ us) = ap (λ (l : List ℕ). ended (unit_line (placed m d p u)) ++ l) (placed_lines-from m d (p + size m d u) us)

-- the heading, the lines of the units that a whole element hands out, and their number are its listing
pub listing_whole : (m : Meaning) (d : Direction) (e : List ℕ) (w : Walk) → HandsOut m d options e w → ended heading ++ (placed_lines (units_left w) ++ ended (count_line (length (units_left w)) (length e))) ≡ listing m d e
listing_whole m d e w so =
    let us = units_on w in
    let left : units_left w ≡ placed_from m d (header options) us = ap (λ (x : Walk). placed_from x.meaning x.direction x.position.place us) so.walk in
    ap₂ (λ (ls : List ℕ) (n : ℕ). ended heading ++ (ls ++ ended (count_line n (length e)))) (ap placed_lines left ∙ placed_lines-from m d (header options) us) so.count
    ∙ ap (listing_by m d (length e)) (sym so.whole_element)
