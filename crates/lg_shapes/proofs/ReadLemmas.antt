-- Outputs are the same for inputs that agree where they read them.
use Rattle.std.proofs.Common.{◌≡◌, ℕ, zero, suc, ◌-◌, ◌≤◌, Bool, true, false, List, [], ◌∷◌, ◌++◌, length, map, take, replicate, refl, sym, ap, ◌∙◌, arith, inl, inr}
use Rattle.std.specs.Prelude.{nat_lt, slice_get}
use Rattle.std.proofs.lemmas.Bool.{cases_Bool, ltb-false}
use Rattle.lg_arith.specs.declared.extension.Extend.{Extend}
use Rattle.lg_arith.specs.Extend.{added_bit, extended}
use Rattle.lg_memory.specs.Inputs.{Word, word_at, bit_at}
use Rattle.lg_memory.proofs.ReadLemmas.{outputs-read}
use Rattle.lg_memory.proofs.ShapeLemmas.{length-word_at}
use Rattle.lg_shapes.specs.declared.shape.Shape.{Shape}
use Rattle.lg_shapes.specs.declared.shape.Shape.TheVariants.{Wiring, Gate, Plexer, Arithmetic, Memory}
use Rattle.lg_shapes.specs.declared.wiring.Wiring.{Wiring as WiringOf}
use Rattle.lg_shapes.specs.declared.wiring.Wiring.TheVariants.{Constant, Power, Ground, BitExtender}
use Rattle.lg_shapes.specs.declared.wiring.Extension.TheVariants.{Zero, One, Sign, Input}
use Rattle.lg_shapes.specs.Wiring.{wiring_inputs, wiring_words, extension_of}
use Rattle.lg_shapes.specs.Shapes.{input_widths, output_words}
use Rattle.lg_shapes.specs.Reads.{reads, wiring_reads}

-- inputs that agree everywhere
same : (one other : List Word) (widths : List ℕ) → map length one ≡ widths → map length other ≡ widths → ((k : ℕ) → word_at one k ≡ word_at other k) → one ≡ other
same [] [] widths h k agree = refl
same [] (b ∷ other) widths h k agree = absurd (cc (h, k))
same (a ∷ one) [] widths h k agree = absurd (cc (h, k))
same (a ∷ one) (b ∷ other) [] h k agree = absurd (cc h)
same (a ∷ one) (b ∷ other) (w ∷ widths) h k agree =
    let first : a ≡ b = agree 0 in
    let rest : one ≡ other = same one other widths (cc h) (cc k) (λ i. agree (suc i)) in
    cc (first, rest)

-- a word that is cut, or stays, needs nothing in added places
not_added : (a : Word) (to : ℕ) (how other : Extend) → to ≤ length a → extended a to how ≡ extended a to other
not_added a to how other short =
    let none : to - length a ≡ 0 = omega arith in
    rw none refl

wiring-read : (part : WiringOf) (one other : List Word) → map length one ≡ wiring_inputs part → map length other ≡ wiring_inputs part → ((input : ℕ) → wiring_reads part input ≡ true → word_at one input ≡ word_at other input) → wiring_words part one ≡ wiring_words part other
wiring-read (Constant value) one other h k agree = refl
wiring-read (Power width) one other h k agree = refl
wiring-read (Ground width) one other h k agree = refl
wiring-read (BitExtender from to Zero) one other h k agree = rw (agree 0 refl) refl
wiring-read (BitExtender from to One) one other h k agree = rw (agree 0 refl) refl
wiring-read (BitExtender from to Sign) one other h k agree = rw (agree 0 refl) refl
wiring-read (BitExtender from to Input) one other h k agree =
    let wide : length (word_at other 0) ≡ from = length-word_at other (from ∷ 1 ∷ []) 0 k in
    rw (agree 0 refl)
    (ap (λ (w : Word). w ∷ []) (elim (cases_Bool (nat_lt from to)) [
      | inl wider ↦ ap (λ (w : Word). extended (word_at other 0) to (extension_of Input (word_at other 0 ∷ w ∷ []))) (agree 1 wider)
      | inr narrow ↦ not_added (word_at other 0) to (extension_of Input one) (extension_of Input other) (omega (arith, wide, ltb-false from to narrow))
    ]))

-- of every shape
pub reads_few : (shape : Shape) (strict : Bool) (attached : List Bool) (words : List Word) (output : ℕ) (one other : List Word) → map length one ≡ input_widths shape → map length other ≡ input_widths shape → ((input : ℕ) → reads shape output input ≡ true → word_at one input ≡ word_at other input) → slice_get (output_words shape strict attached words one) output ≡ slice_get (output_words shape strict attached words other) output
reads_few (Wiring part) strict attached words output one other h k agree = ap (λ (ws : List Word). slice_get ws output) (wiring-read part one other h k agree)
reads_few (Gate gate) strict attached words output one other h k agree =
    ap (λ (i : List Word). slice_get (output_words (Gate gate) strict attached words i) output) (same one other (input_widths (Gate gate)) h k (λ i. agree i refl))
reads_few (Plexer plexer) strict attached words output one other h k agree =
    ap (λ (i : List Word). slice_get (output_words (Plexer plexer) strict attached words i) output) (same one other (input_widths (Plexer plexer)) h k (λ i. agree i refl))
reads_few (Arithmetic part) strict attached words output one other h k agree =
    ap (λ (i : List Word). slice_get (output_words (Arithmetic part) strict attached words i) output) (same one other (input_widths (Arithmetic part)) h k (λ i. agree i refl))
reads_few (Memory form) strict attached words output one other h k agree = outputs-read form words output one other agree
