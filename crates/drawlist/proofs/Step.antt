-- A survey with one line more. Assumes nothing.
use Rattle.std.proofs.Common.{◌≡◌, ℕ, ◌+◌, ◌<◌, ◌≤◌, Bool, true, false, cond, not, List, [], ◌∷◌, ◌++◌, map, length, get_or, take, is_some, is_none, Some, None, count_by, Option, sym, refl, ap, ◌∙◌, subst, append_assoc, append-nil, add-zero, arith, Bor}
use Rattle.std.proofs.lemmas.List.{map_push, map_more, length-map, length-take-le}
use Rattle.std.proofs.lemmas.List.Sums.{sum_by_push, count_by-le-length}
use Rattle.std.proofs.lemmas.List.FromFn.{length-range_with_len}
use Rattle.std.specs.List.{range_with_len}
use Rattle.std.specs.Option.{option_map_or}
use Rattle.film.specs.declared.address.Address.{Address}
use Rattle.film.specs.Refusals.{Answer, given, refused}
use Rattle.film.specs.Names.{scheme_of, scheme_named}
use Rattle.film.specs.declared.name.SchemeName.{SchemeName}
use Rattle.film.specs.Schemes.{SchemeMeaning, at, located}
use Rattle.film.proofs.Single.{located_found}
use Rattle.lines.specs.Text.{numbers_of}
use Rattle.drawlist.specs.declared.row.Seen.{Seen}
use Rattle.drawlist.specs.declared.row.Tally.{Tally}
use Rattle.drawlist.specs.Rows.{Naming, frame, not_named, no_scheme, no_address, naming, answered, named_by, name_of}
use Rattle.drawlist.specs.Surveys.{earlier, earlier_of, is_address, is_refused, is_unreadable, first_naming, frames_named, Tallies, Counted, Room, Surveys}
use Rattle.drawlist.proofs.Named.{frames_same, frames_again, frames_more, frames_none}

earlier_of_push : (before ns : List Naming) (n : Naming) → earlier_of before (ns ++ n ∷ []) ≡ earlier_of before ns ++ earlier n (before ++ ns) ∷ []
earlier_of_push before [] n = ap (λ l. earlier n l ∷ []) (sym (append-nil before))
earlier_of_push before (x ∷ ns) n =
    ap (λ l. earlier x before ∷ l)
    (earlier_of_push (before ++ x ∷ []) ns n ∙ ap (λ l. earlier_of (before ++ x ∷ []) ns ++ earlier n l ∷ []) (append_assoc before (x ∷ []) ns))

-- the frames that a line names are the reel's
abbrev pub Below : ℕ → Naming → Type 0
Below N n = (f : ℕ) → n ≡ frame f → f < N

count_push : (p : Naming → Bool) (ns : List Naming) (n : Naming) → count_by p (ns ++ n ∷ []) ≡ count_by p ns + cond (p n) 1 0
count_push p ns n = sum_by_push (λ x. cond (p x) 1 0) ns n

frames_push : (N : ℕ) (ns : List Naming) (n : Naming) (new : Bool) → Below N n → is_some (earlier n ns) ≡ not new → frames_named N (ns ++ n ∷ []) ≡ frames_named N ns + cond (is_address n) (cond new 1 0) 0
frames_push N ns (frame f) true below e = frames_more N ns f (below f refl) e
frames_push N ns (frame f) false below e = frames_again N ns f e ∙ sym (add-zero _)
frames_push N ns (not_named r) new below e = frames_same N ns (not_named r) (λ _. refl) ∙ sym (add-zero _)
frames_push N ns (no_scheme code) new below e = frames_same N ns (no_scheme code) (λ _. refl) ∙ sym (add-zero _)
frames_push N ns no_address new below e = frames_same N ns no_address (λ _. refl) ∙ sym (add-zero _)

pub surveys_none : (N : ℕ) → Surveys N [] [] (record { addresses = 0; frames = 0; refused = 0; unreadable = 0 })
surveys_none N = record {
  rows = refl;
  repeats = refl;
  tally = record { addresses = refl; frames = sym (frames_none N); refused = refl; unreadable = refl };
}

pub surveys_more : (N : ℕ) (ns : List Naming) (seen : List Seen) (t after : Tally) (s : Seen) (new : Bool)
    → Surveys N ns seen t → Below N (naming s.row) → s.earlier ≡ earlier (naming s.row) ns → is_some s.earlier ≡ not new → Counted t (naming s.row) new after
    → Surveys N (ns ++ naming s.row ∷ []) (seen ++ s ∷ []) after
surveys_more N ns seen t after s new so below e is c = record {
  rows = map_push (λ (x : Seen). naming x.row) seen s ∙ ap (λ l. l ++ naming s.row ∷ []) so.rows;
  repeats = map_push (λ (x : Seen). x.earlier) seen s ∙ (λ i. so.repeats i ++ e i ∷ []) ∙ sym (earlier_of_push [] ns (naming s.row));
  tally = record {
    addresses = c.addresses ∙ ap (λ n. n + cond (is_address (naming s.row)) 1 0) so.tally.addresses ∙ sym (count_push is_address ns _);
    frames = c.frames ∙ ap (λ n. n + cond (is_address (naming s.row)) (cond new 1 0) 0) so.tally.frames ∙ sym (frames_push N ns _ new below (ap is_some (sym e) ∙ is));
    refused = c.refused ∙ ap (λ n. n + cond (is_refused (naming s.row)) 1 0) so.tally.refused ∙ sym (count_push is_refused ns _);
    unreadable = c.unreadable ∙ ap (λ n. n + cond (is_unreadable (naming s.row)) 1 0) so.tally.unreadable ∙ sym (count_push is_unreadable ns _);
  };
}

-- the counts of n lines are at most n, and at most the reel's frames
pub room : (N n : ℕ) (ns : List Naming) (t : Tally) → Tallies N ns t → length ns ≤ n → N ≤ n → Room t n
room N n ns t so few small = (
  omega (arith, so.addresses, count_by-le-length is_address ns),
  omega (arith, so.frames, count_by-le-length (λ f. is_some (first_naming f ns)) (range_with_len 0 N), length-range_with_len 0 N),
  omega (arith, so.refused, count_by-le-length is_refused ns),
  omega (arith, so.unreadable, count_by-le-length is_unreadable ns),
)

answered_frame : (x : Answer ℕ) (f : ℕ) → answered x ≡ frame f → x ≡ given f
answered_frame (given g) f e = cc
answered_frame (refused r) f e = absurd cc

answered_below : (m : SchemeMeaning) (N : ℕ) (a : Address) → Below N (answered (located m N a))
answered_below m N a f e = (located_found m N a f (answered_frame _ f e)).1

scheme_below : (N code : ℕ) (a : Address) (o : Option SchemeName) → Below N (option_map_or (λ scheme. answered (located (scheme_of scheme) N a)) o (no_scheme code))
scheme_below N code a None f e = absurd cc
scheme_below N code a (Some scheme) f e = answered_below (scheme_of scheme) N a f e

named_below : (N : ℕ) (o : Option (List ℕ)) → Below N (named_by N o)
named_below N None f e = absurd cc
named_below N (Some ns) f e = scheme_below N _ (at (get_or ns 1 0) (get_or ns 2 0)) (scheme_named (get_or ns 0 0)) f e

-- a line names a frame of the reel, if any
pub line_below : (N : ℕ) (line : List ℕ) → Below N (name_of N line)
line_below N line = named_below N (numbers_of 3 (Some line))

-- the lines as they lie in memory
abbrev pub names_of : ℕ → List (Bor (List ℕ)) → List Naming
names_of N lines = map (λ (t : Bor (List ℕ)). name_of N t.now) lines

pub names_more : (N : ℕ) (lines : List (Bor (List ℕ))) (i : ℕ) (d : Bor (List ℕ)) (n : Naming) → i < length lines → n ≡ name_of N (get_or lines i d).now → names_of N (take (i + 1) lines) ≡ names_of N (take i lines) ++ n ∷ []
names_more N lines i d n l e = map_more (λ (t : Bor (List ℕ)). name_of N t.now) lines i d l ∙ ap (λ m. names_of N (take i lines) ++ m ∷ []) (sym e)

pub length-names_of : (N i : ℕ) (lines : List (Bor (List ℕ))) → i ≤ length lines → length (names_of N (take i lines)) ≡ i
length-names_of N i lines l = length-map (take i lines) (λ (t : Bor (List ℕ)). name_of N t.now) ∙ length-take-le i lines l

pub some_none : (o : Option ℕ) → is_some o ≡ not (is_none o)
some_none None = refl
some_none (Some i) = refl

pub line_more : (N : ℕ) (lines : List (Bor (List ℕ))) (i : ℕ) (d : Bor (List ℕ)) (seen : List Seen) (t after : Tally) (s : Seen) (new : Bool)
    → i < length lines → Surveys N (names_of N (take i lines)) seen t → naming s.row ≡ name_of N (get_or lines i d).now
    → s.earlier ≡ earlier (naming s.row) (names_of N (take i lines)) → is_some s.earlier ≡ not new → Counted t (naming s.row) new after
    → Surveys N (names_of N (take (i + 1) lines)) (seen ++ s ∷ []) after
line_more N lines i d seen t after s new l so row e is c =
    let below = subst (Below N) (sym row) (line_below N (get_or lines i d).now) in
    subst (λ ns. Surveys N ns (seen ++ s ∷ []) after) (sym (names_more N lines i d (naming s.row) l row))
    (surveys_more N (names_of N (take i lines)) seen t after s new so below e is c)
