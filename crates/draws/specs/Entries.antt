-- What an entry of the pull table says. Assumes nothing.
use Rattle.std.specs.Prelude.{ℕ, List, map}
use Rattle.draws.specs.declared.entry.State.{State}
use Rattle.draws.specs.declared.entry.State.TheVariants.{Empty, Out, Good, Bad}
use Rattle.draws.specs.declared.entry.Entry.{Entry}

-- the states' codes
abbrev pub state_code : State → ℕ
state_code Empty = 0
state_code Out = 1
state_code Good = 2
state_code Bad = 3

abbrev pub frame_of : Entry → ℕ
frame_of e = e.frame

abbrev pub state_of : Entry → State
state_of e = e.state

-- the frames of a table, in order
abbrev pub frames_of : List Entry → List ℕ
frames_of es = map frame_of es
