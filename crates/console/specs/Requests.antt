-- What a line asks for, or that it asks for nothing. Assumes nothing.
use Rattle.std.specs.Prelude.{ℕ, ◌-◌, cond, List, length, take, drop, Some, None, Option, ◌==◌, nat_le, slice_index}
use Rattle.film.specs.declared.address.Address.{Address}
use Rattle.film.specs.declared.name.SchemeName.{SchemeName}
use Rattle.film.specs.Names.{scheme_named}
use Rattle.film.specs.Schemes.{at}
use Rattle.lines.specs.Text.{numbers_of}
use Rattle.draws.specs.declared.name.RuleName.{RuleName}
use Rattle.draws.specs.Names.{rule_named}
use Rattle.inspection.specs.declared.ticket.Mark.{Mark}
use Rattle.inspection.specs.declared.ticket.Mark.TheVariants.{Good, Bad}
use Rattle.console.specs.declared.request.Request.{Request}
use Rattle.console.specs.declared.request.Request.TheVariants.{Reel as ReelNoted, Plan, Frame, Slip}

abbrev pub mark_named : ℕ → Option Mark
mark_named byte = cond (byte == 103) (Some Good) (cond (byte == 98) (Some Bad) None)

-- r: the reel's number, its frames and the rule
abbrev pub reel_from : ℕ → ℕ → Option RuleName → Option Request
reel_from number frames None = None
reel_from number frames (Some rule) = Some (ReelNoted (record { number = number; frames = frames; rule = rule }))

abbrev pub reel_by : Option (List ℕ) → Option Request
reel_by None = None
reel_by (Some ns) = reel_from (slice_index ns 0) (slice_index ns 1) (rule_named (slice_index ns 2))

-- p: the plan's five numbers, the tolerance and the limit
abbrev pub plan_by : Option (List ℕ) → Option Request
plan_by None = None
plan_by (Some ns) = Some (Plan ns)

-- f: a scheme and an address in it, and g or b behind them
abbrev pub frame_from : Option SchemeName → Address → Option Mark → Option Request
frame_from None a mark = None
frame_from (Some scheme) a None = None
frame_from (Some scheme) a (Some mark) = Some (Frame scheme a mark)

abbrev pub frame_by : Option (List ℕ) → ℕ → Option Request
frame_by None byte = None
frame_by (Some ns) byte = frame_from (scheme_named (slice_index ns 0)) (at (slice_index ns 1) (slice_index ns 2)) (mark_named byte)

abbrev pub frame_in : List ℕ → Option Request
frame_in text =
    cond (nat_le 2 (length text))
    (cond (slice_index text (length text - 2) == 32) (frame_by (numbers_of 3 (Some (take (length text - 2) text))) (slice_index text (length text - 1))) None)
    None

-- s: a scheme
abbrev pub slip_from : Option SchemeName → Option Request
slip_from None = None
slip_from (Some scheme) = Some (Slip scheme)

abbrev pub slip_by : Option (List ℕ) → Option Request
slip_by None = None
slip_by (Some ns) = slip_from (scheme_named (slice_index ns 0))

-- the part behind the letter and the blank, by the letter
abbrev pub request_by : (letter : ℕ) → List ℕ → Option Request
request_by letter text =
    cond (letter == 114) (reel_by (numbers_of 3 (Some text)))
    (cond (letter == 112) (plan_by (numbers_of 7 (Some text)))
    (cond (letter == 102) (frame_in text)
    (cond (letter == 115) (slip_by (numbers_of 1 (Some text))) None)))

-- a line's first byte names it, a blank follows
abbrev pub request_of : List ℕ → Option Request
request_of line = cond (slice_index line 1 == 32) (request_by (slice_index line 0) (drop 2 line)) None
