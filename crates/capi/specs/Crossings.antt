-- How an answer crosses to a caller in C: as a refusal and a value, each of them 0 where the other stands. Assumes nothing.
use Rattle.std.specs.Prelude.{◌≡◌, ℕ, List, [], ◌∷◌, codes}
use Rattle.film.specs.Refusals.{Answer, given, refused, Refusal}
use Rattle.film.specs.declared.address.Address.{Address}
use Rattle.sampling.specs.declared.chance.Ends.{Ends}
use Rattle.capi.specs.declared.answer.Refused.{Refused}
use Rattle.capi.specs.declared.answer.EndsAnswer.{EndsAnswer}
use Rattle.capi.specs.declared.answer.NumberAnswer.{NumberAnswer}
use Rattle.capi.specs.declared.answer.AddressAnswer.{AddressAnswer}

-- the letter of the layer that refused
abbrev pub lowest : List ℕ → ℕ
lowest [] = 0
lowest (letter ∷ letters) = letter

abbrev pub crossing : Refusal → Refused
crossing r = record { number = r.number; place = r.place; layer = lowest r.layers }

-- nothing was refused
abbrev pub answered : Refused
answered = record { number = 0; place = 0; layer = 0 }

-- no rule or scheme has the code
abbrev pub unknown_code : ℕ → Refusal
unknown_code code = record { number = 61; place = code; layers = codes "C" }

abbrev pub ends_crossing : Answer Ends → EndsAnswer
ends_crossing (given ends) = record { refused = answered; lo = ends.lo; hi = ends.hi }
ends_crossing (refused r) = record { refused = crossing r; lo = 0; hi = 0 }

abbrev pub number_crossing : Answer ℕ → NumberAnswer
number_crossing (given n) = record { refused = answered; value = n }
number_crossing (refused r) = record { refused = crossing r; value = 0 }

abbrev pub address_crossing : Answer Address → AddressAnswer
address_crossing (given a) = record { refused = answered; whole = a.whole; part = a.part }
address_crossing (refused r) = record { refused = crossing r; whole = 0; part = 0 }

-- what crossed is an answer of which this is promised
pub record Crossed {A C : Type 0} (cross : Answer A → C) (Promised : Answer A → Type 0) (r : C) : Type 0 where
  pub answer : Answer A
  pub promised : Promised answer
  pub crossed : r ≡ cross answer
