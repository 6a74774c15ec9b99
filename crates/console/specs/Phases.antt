-- What the program's own session says. Assumes nothing.
use Rattle.std.specs.Prelude.{Result}
use Rattle.inspection.specs.Readings.{held_of, rule_of}
use Rattle.console.specs.Readings.{answer_of}
use Rattle.console.specs.Sessions as sessions
use Rattle.console.specs.declared.fault.ConsoleFault.{ConsoleFault}
use Rattle.console.specs.declared.reply.Reply.{Reply}
use Rattle.console.specs.declared.state.Phase.{Phase}
use Rattle.console.specs.declared.state.Phase.TheVariants.{Begun, Noted, Opened}
use Rattle.console.specs.declared.state.Session.{Session}

abbrev pub phase_of : Phase → sessions.Phase
phase_of Begun = sessions.begun
phase_of (Noted reel) = sessions.noted reel
phase_of (Opened inspection) = sessions.opened (rule_of inspection) (held_of inspection)

abbrev pub session_of : Session → sessions.Session
session_of s = sessions.session (phase_of s.phase) s.table.items

-- a session behind a line, and what the line was answered
abbrev pub step_of : Session → Result Reply ConsoleFault → sessions.Step
step_of s answer = sessions.step (phase_of s.phase) s.table.items (answer_of answer s.buffer.items)
