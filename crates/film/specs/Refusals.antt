-- How every call's answer reads: a value given, or a refusal by number, place and layers. Assumes nothing.
use Rattle.std.specs.Prelude.{ℕ, List, ◌++◌, Ok, Err, codes, decimal, Result}

-- layers are the letters of the layers that a refusal went through, the lowest first
pub record Refusal : Type 0 where
  pub number : ℕ
  pub place : ℕ
  pub layers : List ℕ

pub data Answer (A : Type 0) : Type 0 where
  given : A → Answer A
  refused : Refusal → Answer A

-- a refusal with its layers written as text
abbrev pub refuse : {A : Type 0} → ℕ → ℕ → List ℕ → Answer A
refuse number place layers = refused (record { number = number; place = place; layers = layers })

-- what a result says, where `refusal` sets out each case of its fault
abbrev pub reading : {A F : Type 0} → (F → Refusal) → Result A F → Answer A
reading refusal (Ok value) = given value
reading refusal (Err fault) = refused (refusal fault)

-- as it is printed: `no 11 2 A`
abbrev pub refusal_text : Refusal → List ℕ
refusal_text r = codes "no " ++ (decimal r.number ++ (codes " " ++ (decimal r.place ++ (codes " " ++ r.layers))))
