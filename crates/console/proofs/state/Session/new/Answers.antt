use Rattle.std.proofs.Common.{ap, arith}
use Rattle.console.specs.Sessions.{begun, session}
use Rattle.console.proofs.state.Session.new.Goals as goal

-- arithmetic refuses another length at once, where search runs out of memory
pub invariant_of-result : goal.invariant_of-result
invariant_of-result c = omega (arith, c.in_ok-vec-2.ensures.len)

pub returns : goal.returns
returns c =
    ap (session begun) (c.in_ok-vec.ensures.items_if_clones_equal (λ y h. h))
