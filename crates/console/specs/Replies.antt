-- A whole input's output: the replies to its lines in turn, as text. Assumes nothing.
use Rattle.std.specs.Prelude.{ℕ, suc, cond, List, [], ◌∷◌, ◌++◌, length, codes, decimal, nat_lt}
use Rattle.film.specs.Refusals.{Refusal, refusal_text}
use Rattle.lines.specs.Text.{lines_of}
use Rattle.console.specs.Hex.{hex_lines}
use Rattle.console.specs.Sessions.{Reply, fine, bounds, stands, wrote, no, Session, line_step, fresh}

abbrev pub newline : List ℕ
newline = 10 ∷ []

abbrev pub reply_text : Reply → List ℕ
reply_text fine = codes "ok" ++ newline
reply_text (bounds lo hi) = codes "ok " ++ (decimal lo ++ (codes " " ++ (decimal hi ++ newline)))
reply_text (stands code) = codes "ok " ++ (decimal code ++ newline)
reply_text (wrote bytes) = codes "ok " ++ (decimal (length bytes) ++ (newline ++ hex_lines bytes))
reply_text (no r) = refusal_text r ++ newline

-- the lines from one on, each answered in the session that those before it left
abbrev pub output_from : (line : ℕ) → Session → List (List ℕ) → List ℕ
output_from line s [] = []
output_from line s (text ∷ texts) = reply_text (line_step line text s).reply ++ output_from (suc line) (line_step line text s).session texts

-- more than 65,536 bytes are not read
abbrev pub too_long : Refusal
too_long = record { number = 63; place = 0; layers = codes "M" }

unfoldable pub output_of : List ℕ → List ℕ
output_of input = cond (nat_lt 65536 (length input)) (refusal_text too_long ++ newline) (output_from 1 fresh (lines_of input))
