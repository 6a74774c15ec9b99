-- The first cell holds a certainty, those behind it nothing.
use Rattle.std.proofs.Common.{rules}
use Rattle.sampling.proofs.Overlays.{begun}
use Rattle.sampling.proofs.rows.start.Goals as goal

pub returns : goal.returns
returns c = begun _ _ c.requires (c.fill.ensures.after (λ y h. search rules))
