-- What a line of a draw list names. Assumes nothing.
use Rattle.std.specs.Prelude.{ℕ, List, Some, None, Ok, Err, Option, Result, codes, slice_index}
use Rattle.std.specs.Option.{option_map_or}
use Rattle.film.specs.declared.address.Address.{Address}
use Rattle.film.specs.Faults.{refusal_of}
use Rattle.film.specs.Names.{scheme_of, scheme_named, unknown_scheme_text}
use Rattle.film.specs.Refusals.{Refusal, Answer, given, refused, refusal_text}
use Rattle.film.specs.Schemes.{at, located}
use Rattle.lines.specs.Text.{numbers_of}
use Rattle.drawlist.specs.declared.row.RowFault.{RowFault}
use Rattle.drawlist.specs.declared.row.RowFault.TheVariants.{Refused, UnknownScheme, Unreadable}

pub data Naming : Type 0 where
  frame : ℕ → Naming
  not_named : Refusal → Naming
  no_scheme : ℕ → Naming
  no_address : Naming

-- what a row of the program says
abbrev pub naming : Result ℕ RowFault → Naming
naming (Ok f) = frame f
naming (Err (Refused fault)) = not_named (refusal_of fault)
naming (Err (UnknownScheme unknown)) = no_scheme unknown.code
naming (Err Unreadable) = no_address

-- as a fault is printed
abbrev pub fault_text : RowFault → List ℕ
fault_text (Refused fault) = refusal_text (refusal_of fault)
fault_text (UnknownScheme unknown) = unknown_scheme_text unknown
fault_text Unreadable = codes "cannot be read"

abbrev pub answered : Answer ℕ → Naming
answered (given f) = frame f
answered (refused r) = not_named r

-- an address in the scheme of a code, on a reel of N frames
abbrev pub named_in : (N code : ℕ) → Address → Naming
named_in N code a = option_map_or (λ scheme. answered (located (scheme_of scheme) N a)) (scheme_named code) (no_scheme code)

abbrev pub named_by : ℕ → Option (List ℕ) → Naming
named_by N None = no_address
named_by N (Some ns) = named_in N (slice_index ns 0) (at (slice_index ns 1) (slice_index ns 2))

-- a line is a scheme's code, a whole unit and a part
abbrev pub name_of : (N : ℕ) → List ℕ → Naming
name_of N line = named_by N (numbers_of 3 (Some line))
