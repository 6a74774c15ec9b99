-- One line more of an output. Assumes nothing.
use Rattle.std.proofs.Common.{◌≡◌, ℕ, suc, ◌+◌, List, ◌∷◌, ◌++◌, map, sym, ap, ◌∙◌, append_assoc, add-one, Bor}
use Rattle.console.specs.Replies.{reply_text, output_from}
use Rattle.console.specs.Sessions.{Session, Step, line_step}

module _ (n : ℕ) (lines : List (Bor (List ℕ))) (s : Session) (out whole : List ℕ) (so : out ++ output_from n s (map (λ x. x.now) lines) ≡ whole) where
  pub one_turn : (line next : ℕ) (text : Bor (List ℕ)) (rest : List (Bor (List ℕ))) (st : Step) (out' : List ℕ) → line ≡ n → next ≡ line + 1 → lines ≡ text ∷ rest → st ≡ line_step line text.now s → out' ≡ out ++ reply_text st.reply → out' ++ output_from next st.session (map (λ x. x.now) rest) ≡ whole
  one_turn line next text rest st out' here behind these is more =
      let texts = map (λ x. x.now) rest in
      (λ i. more i ++ output_from ((behind ∙ add-one line) i) st.session texts) ∙
      append_assoc out (reply_text st.reply) (output_from (suc line) st.session texts) ∙
      ap (λ (x : Step). out ++ (reply_text x.reply ++ output_from (suc line) x.session texts)) is ∙
      (λ i. out ++ output_from (here i) s (map (λ x. x.now) (sym these i))) ∙
      so
