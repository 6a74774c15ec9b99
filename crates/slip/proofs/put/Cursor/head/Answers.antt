use Rattle.std.proofs.Common.{◌≡◌, ◌≤◌, List, [], ◌∷◌, length, ap, arith}
use Rattle.plans.specs.Makes.{numbers_of}
use Rattle.sampling.specs.Certified.{certified_numbers}
use Rattle.inspection.specs.Readings.{rule_of}
use Rattle.inspection.specs.Tables.{standing_code}
use Rattle.slip.specs.Bytes.{bytes_of}
use Rattle.slip.specs.Cursors.{left}
use Rattle.slip.specs.Fields.{field, field_bytes}
use Rattle.slip.specs.Rooms.{plan_numbers}
use Rattle.slip.specs.declared.put.Number.{Number}
use Rattle.slip.specs.declared.put.Tag.TheVariants.{Reel, Frames, Rule, Plan, Guarantee, Chance, Standing}
use Rattle.slip.proofs.Joins.{room_for, wrote_more, wrote_same}
use Rattle.slip.proofs.put.Cursor.head.Goals as goal

pub field-requires-4-clause-room : goal.field-requires-4-clause-room
field-requires-4-clause-room g c =
    let numbers : c.plan_numbers.result ≡ plan_numbers (numbers_of c.args.inspection.now.certified.plan) = cc in
    let three = wrote_more (wrote_more c.field.ensures c.field-2.ensures) c.field-3.ensures in
    let room : 13 ≤ length (left c.field-3.new.self) = room_for 13 three (omega (arith, c.requires.room)) in
    omega (arith, room, ap (λ (ns : List Number). length (bytes_of ns)) numbers)

pub field-requires-5-clause-room : goal.field-requires-5-clause-room
field-requires-5-clause-room g c =
    let numbers : c.plan_numbers.result ≡ plan_numbers (numbers_of c.args.inspection.now.certified.plan) = cc in
    let three = wrote_more (wrote_more c.field.ensures c.field-2.ensures) c.field-3.ensures in
    let four = wrote_more three (wrote_same (ap (λ (ns : List Number). field_bytes (record { tag = Plan; value = bytes_of ns })) numbers) c.field-4.ensures) in
    room_for 11 four (omega (arith, c.requires.room))

pub field-requires-6-clause-room : goal.field-requires-6-clause-room
field-requires-6-clause-room g c =
    let numbers : c.plan_numbers.result ≡ plan_numbers (numbers_of c.args.inspection.now.certified.plan) = cc in
    let three = wrote_more (wrote_more c.field.ensures c.field-2.ensures) c.field-3.ensures in
    let four = wrote_more three (wrote_same (ap (λ (ns : List Number). field_bytes (record { tag = Plan; value = bytes_of ns })) numbers) c.field-4.ensures) in
    room_for 19 (wrote_more four c.field-5.ensures) (omega (arith, c.requires.room))

pub field-requires-7-clause-room : goal.field-requires-7-clause-room
field-requires-7-clause-room g c =
    let numbers : c.plan_numbers.result ≡ plan_numbers (numbers_of c.args.inspection.now.certified.plan) = cc in
    let three = wrote_more (wrote_more c.field.ensures c.field-2.ensures) c.field-3.ensures in
    let four = wrote_more three (wrote_same (ap (λ (ns : List Number). field_bytes (record { tag = Plan; value = bytes_of ns })) numbers) c.field-4.ensures) in
    room_for 4 (wrote_more (wrote_more four c.field-5.ensures) c.field-6.ensures) (omega (arith, c.requires.room))

pub field-requires-8-clause-room : goal.field-requires-8-clause-room
field-requires-8-clause-room g c =
    let numbers : c.plan_numbers.result ≡ plan_numbers (numbers_of c.args.inspection.now.certified.plan) = cc in
    let three = wrote_more (wrote_more c.field.ensures c.field-2.ensures) c.field-3.ensures in
    let four = wrote_more three (wrote_same (ap (λ (ns : List Number). field_bytes (record { tag = Plan; value = bytes_of ns })) numbers) c.field-4.ensures) in
    room_for 9 (wrote_more (wrote_more (wrote_more four c.field-5.ensures) c.field-6.ensures) c.field-7.ensures) (omega (arith, c.requires.room))

pub returns : goal.returns
returns g c =
    let i = c.args.inspection.now in
    let k = certified_numbers i.certified in
    let rule = (g.R.DrawRule.meaning (rule_of i)).code in
    let numbers : c.plan_numbers.result ≡ plan_numbers k.plan = cc in
    let one = wrote_same {ys = field_bytes (field Reel 4 (i.number ∷ []))} (cc) c.field.ensures in
    let two = wrote_more one (wrote_same {ys = field_bytes (field Frames 4 (k.N ∷ []))} (cc) c.field-2.ensures) in
    let three = wrote_more two (wrote_same {ys = field_bytes (field Rule 1 (rule ∷ []))} (cc) c.field-3.ensures) in
    let four = wrote_more three (wrote_same (ap (λ (ns : List Number). field_bytes (record { tag = Plan; value = bytes_of ns })) numbers) c.field-4.ensures) in
    let five = wrote_more four (wrote_same {ys = field_bytes (field Guarantee 4 (k.T ∷ k.limit ∷ []))} (cc) c.field-5.ensures) in
    let six = wrote_more five (wrote_same {ys = field_bytes (field Chance 8 (k.lo ∷ k.hi ∷ []))} (cc) c.field-6.ensures) in
    let seven = wrote_more six (wrote_same {ys = field_bytes (field Standing 1 (standing_code c.args.report.standing ∷ []))} (cc) c.field-7.ensures) in
    wrote_more seven c.field-8.ensures
