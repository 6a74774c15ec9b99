use Rattle.std.proofs.Common.{◌≡◌, ◌-◌, length, take, Some}
use Rattle.std.specs.Option.{option_map}
use Rattle.lines.specs.Text.{numbers_of}
use Rattle.lines.proofs.Row.{after}
use Rattle.lines.proofs.numbers.Given as goal

abbrev pub invariant-loop-slot : goal.invariant-loop-slot
invariant-loop-slot g l =
    (length l.slot-items ≡ g.row.K) × (numbers_of g.row.K (Some l.text) ≡ after (take l.slot-index l.slot-items) (numbers_of (g.row.K - l.slot-index) (option_map (λ x. x.now) l.rest)))
