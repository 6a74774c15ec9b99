-- What the program's own replies say. Assumes nothing.
use Rattle.std.specs.Prelude.{ℕ, List, take, Ok, Err, Result}
use Rattle.console.specs.Faults.{console_refusal}
use Rattle.console.specs.Sessions as sessions
use Rattle.console.specs.declared.fault.ConsoleFault.{ConsoleFault}
use Rattle.console.specs.declared.reply.Reply.{Reply}
use Rattle.console.specs.declared.reply.Reply.TheVariants.{Fine, Bounds, Stands, Wrote, No}

-- what a reply says
abbrev pub reply_of : Reply → (buffer : List ℕ) → sessions.Reply
reply_of Fine buffer = sessions.fine
reply_of (Bounds lo hi) buffer = sessions.bounds lo hi
reply_of (Stands code) buffer = sessions.stands code
reply_of (Wrote count) buffer = sessions.wrote (take count buffer)
reply_of (No fault) buffer = sessions.no (console_refusal fault)

-- and where a fault stands for a refusal
abbrev pub answer_of : Result Reply ConsoleFault → (buffer : List ℕ) → sessions.Reply
answer_of (Ok reply) buffer = reply_of reply buffer
answer_of (Err fault) buffer = sessions.no (console_refusal fault)
