-- The slip of an inspection: its fields, and the bytes that they take. Assumes nothing.
use Rattle.std.specs.Prelude.{ℕ, Bool, true, false, cond, List, [], ◌∷◌, ◌++◌, map, length, take}
use Rattle.std.specs.List.{flat_map}
use Rattle.film.specs.Schemes.{SchemeMeaning, address_at}
use Rattle.film.specs.declared.address.Address.{Address}
use Rattle.draws.specs.Entries.{frame_of, state_of}
use Rattle.draws.specs.declared.entry.Entry.{Entry}
use Rattle.draws.specs.declared.entry.State.{State}
use Rattle.draws.specs.declared.entry.State.TheVariants.{Empty, Out, Good, Bad}
use Rattle.sampling.specs.Certified.{CertifiedNumbers}
use Rattle.inspection.specs.Tables.{Held, counts_of}
use Rattle.inspection.specs.declared.report.Counts.{Counts}
use Rattle.slip.specs.Bytes.{be}
use Rattle.slip.specs.declared.put.Tag.{Tag}
use Rattle.slip.specs.declared.put.Tag.TheVariants.{Reel, Frames, Rule, Plan, Guarantee, Chance, Standing, Counts as CountsTag, BadFrame}

-- the tags as numbers
abbrev pub tag_code : Tag → ℕ
tag_code Reel = 1
tag_code Frames = 2
tag_code Rule = 3
tag_code Plan = 4
tag_code Guarantee = 5
tag_code Chance = 6
tag_code Standing = 7
tag_code CountsTag = 8
tag_code BadFrame = 9

pub record Field : Type 0 where
  pub tag : Tag
  pub value : List ℕ

-- the tag in one byte, the value's length in two, and the value
abbrev pub field_bytes : Field → List ℕ
field_bytes f = be 1 (tag_code f.tag) ++ (be 2 (length f.value) ++ f.value)

-- a field of numbers, each in as many bytes
abbrev pub field : Tag → (width : ℕ) → List ℕ → Field
field tag width numbers = record { tag = tag; value = flat_map (be width) numbers }

-- the reel's number, its frames, and the draw rule's code
abbrev pub reel_fields : (number N rule : ℕ) → List Field
reel_fields number N rule = field Reel 4 (number ∷ []) ∷ field Frames 4 (N ∷ []) ∷ field Rule 1 (rule ∷ []) ∷ []

-- the plan's five numbers, the tolerance and the limit, and the two ends of the enclosure
abbrev pub plan_fields : CertifiedNumbers → List Field
plan_fields c =
    field Plan 2 (c.plan.n1 ∷ c.plan.ac1 ∷ c.plan.re1 ∷ c.plan.n2 ∷ c.plan.ac2 ∷ [])
    ∷ field Guarantee 4 (c.T ∷ c.limit ∷ [])
    ∷ field Chance 8 (c.lo ∷ c.hi ∷ [])
    ∷ []

-- the standing's code and the counts
abbrev pub outcome_fields : (standing : ℕ) → Counts → List Field
outcome_fields standing counts = field Standing 1 (standing ∷ []) ∷ field CountsTag 2 (counts.pulled ∷ counts.good ∷ counts.bad ∷ []) ∷ []

-- what every slip begins with
abbrev pub head_fields : (rule : ℕ) → Held → Counts → List Field
head_fields rule h counts = reel_fields h.number h.terms.N rule ++ (plan_fields h.terms ++ outcome_fields h.standing counts)

-- a frame by its address in the scheme: the scheme's code, the whole unit and the part
abbrev pub address_field : (code : ℕ) → Address → Field
address_field code a = record { tag = BadFrame; value = be 1 code ++ (be 4 a.whole ++ be 1 a.part) }

abbrev pub frame_field : SchemeMeaning → (frame : ℕ) → Field
frame_field s frame = address_field s.code (address_at s frame)

abbrev pub is_bad : State → Bool
is_bad Empty = false
is_bad Out = false
is_bad Good = false
is_bad Bad = true

-- an entry's frame, if it is marked bad
abbrev pub frame_if_bad : Entry → List ℕ
frame_if_bad e = cond (is_bad (state_of e)) (frame_of e ∷ []) []

abbrev pub bad_frames : List Entry → List ℕ
bad_frames entries = flat_map frame_if_bad entries

-- the bad frames of an inspection, in order of pull
abbrev pub bad_frames_of : Held → List Entry → List ℕ
bad_frames_of h table = bad_frames (take (counts_of h table).pulled table)

abbrev pub slip_fields : (rule : ℕ) → SchemeMeaning → Held → List Entry → List Field
slip_fields rule s h table = head_fields rule h (counts_of h table) ++ map (frame_field s) (bad_frames_of h table)

unfoldable pub slip_bytes : (rule : ℕ) → SchemeMeaning → Held → List Entry → List ℕ
slip_bytes rule s h table = flat_map field_bytes (slip_fields rule s h table)
