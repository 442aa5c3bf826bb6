-- How evaluations are counted by what parts read.
use Rattle.std.proofs.Common.{◌≡◌, ℕ, ◌+◌, ◌≤◌, Bool, true, false, cond, List, [], ◌∷◌, length, map, drop, sym, refl, ap, ◌∙◌}
use Rattle.std.specs.Prelude.{not}
use Rattle.std.specs.Bool.{Decides}
use Rattle.std.specs.List.{count_by}
use Rattle.std.proofs.lemmas.List.{at_drop_all}
use Rattle.std.proofs.lemmas.List.Sums.{sum_by-cons}
use Rattle.lg_value.specs.declared.bit.Bit.{Bit}
use Rattle.lg_timing.specs.Circuit.{Word, Port, Part, Circuit}
use Rattle.lg_timing.specs.Instant.{Numbered, numbered_parts, word_at, input_words}
use Rattle.lg_timing.specs.Settling.{same_words}
use Rattle.lg_timing.specs.Configuration.{Configuration, nets_of}
use Rattle.lg_timing.specs.Evaluation.{bits_read, evaluations_between}
use Rattle.lg_instants.specs.Plain.{all_inputs}
use Rattle.lg_instants.specs.Stepping.{differing}
use Rattle.lg_timing.proofs.Outputs.{Decides-same_words}
use Rattle.lg_timing.proofs.Evaluated.{words_alike}

differing-no_now : (before : List (List Word)) → differing before [] ≡ 0
differing-no_now [] = refl
differing-no_now (words ∷ before) = refl

-- past the end of the one nothing differs
pub differing-past : (before now : List (List Word)) (i : ℕ) → length now ≤ i → differing before (drop i now) ≡ 0
differing-past before now i past = at_drop_all (λ (l : List (List Word)). differing before l) now i past ∙ differing-no_now before

decided-alike : {A B : Type 0} (a b : Bool) → Decides a A → Decides b B → (A → B) → (B → A) → a ≡ b
decided-alike true true da db to back = refl
decided-alike true false da db to back = sym (db.1 (to (da.0 refl)))
decided-alike false true da db to back = da.1 (back (db.0 refl))
decided-alike false false da db to back = refl

bits_from_word : (f g : ℕ → Bit) (width : ℕ) (nets : List ℕ) → word_at f width nets ≡ word_at g width nets → map f nets ≡ map g nets
bits_from_word f g width [] same = refl
bits_from_word f g width (net ∷ nets) same = same

bits_from_words : (f g : ℕ → Bit) (ports : List Port) → map (λ (port : Port). word_at f port.width port.nets) ports ≡ map (λ (port : Port). word_at g port.width port.nets) ports
    → map (λ (port : Port). map f port.nets) ports ≡ map (λ (port : Port). map g port.nets) ports
bits_from_words f g [] same = refl
bits_from_words f g (port ∷ ports) same =
    let here : word_at f port.width port.nets ≡ word_at g port.width port.nets = cc in
    let rest : map (λ (q : Port). word_at f q.width q.nets) ports ≡ map (λ (q : Port). word_at g q.width q.nets) ports = cc in
    ap (λ w. w ∷ map (λ (q : Port). map f q.nets) ports) (bits_from_word f g port.width port.nets here)
    ∙ ap (λ l. map g port.nets ∷ l) (bits_from_words f g ports rest)

-- the words on inputs differ where their bits do
same_inputs : (f g : ℕ → Bit) (p : Part) → same_words (input_words f p) (input_words g p) ≡ same_words (bits_read f p) (bits_read g p)
same_inputs f g p =
    decided-alike (same_words (input_words f p) (input_words g p)) (same_words (bits_read f p) (bits_read g p))
    (Decides-same_words (input_words f p) (input_words g p)) (Decides-same_words (bits_read f p) (bits_read g p))
    (bits_from_words f g p.inputs) (words_alike f g p.inputs)

one_or_none : (b : Bool) → let zero_one : ℕ = cond b 0 1 in zero_one ≡ cond (not b) 1 0
one_or_none true = refl
one_or_none false = refl

differing-parts : (f g : ℕ → Bit) (parts : List Numbered) → differing (map (λ (p : Numbered). input_words f p.1) parts) (map (λ (p : Numbered). input_words g p.1) parts)
    ≡ count_by (λ (p : Numbered). not (same_words (bits_read f p.1) (bits_read g p.1))) parts
differing-parts f g [] = refl
differing-parts f g (p ∷ parts) =
    let test : Numbered → ℕ = λ q. cond (not (same_words (bits_read f q.1) (bits_read g q.1))) 1 0 in
    let rest : ℕ = differing (map (λ (q : Numbered). input_words f q.1) parts) (map (λ (q : Numbered). input_words g q.1) parts) in
    ap (λ n. n + rest) (one_or_none (same_words (input_words f p.1) (input_words g p.1)))
    ∙ ap (λ b. cond (not b) 1 0 + rest) (same_inputs f g p.1)
    ∙ ap (λ n. test p + n) (differing-parts f g parts)
    ∙ sym (sum_by-cons test p parts)

pub differing-inputs : (c : Circuit) (before now : Configuration) → differing (all_inputs c (nets_of c before)) (all_inputs c (nets_of c now)) ≡ evaluations_between c before now
differing-inputs c before now = differing-parts (nets_of c before) (nets_of c now) (numbered_parts c)
