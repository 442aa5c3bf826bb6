-- What a part answers to the static words of its inputs is what its equation says of their numbers.
use Rattle.std.proofs.Common.{◌≡◌, ℕ, ◌+◌, ◌<◌, false, not, List, [], ◌∷◌, length, map, filter, refl, sym, ap, subst, ◌∙◌, arith}
use Rattle.std.specs.Prelude.{◌==◌, Option, slice_index_or}
use Rattle.std.specs.List.{AllByRecursion, enumerate_from}
use Rattle.std.proofs.lemmas.Bool.{ne_eqb}
use Rattle.lg_value.specs.declared.bit.Bit.{Bit}
use Rattle.lg_value.specs.declared.bit.Bit.TheVariants.{Unknown}
use Rattle.lg_value.specs.Bit.{not_bit}
use Rattle.lg_value.specs.Word.{number_of}
use Rattle.lg_gates.specs.declared.gates.GateKind.{GateKind}
use Rattle.lg_gates.specs.declared.gates.GateKind.TheVariants as kind
use Rattle.lg_gates.specs.Gate.{bits_at, gate_word}
use Rattle.lg_gates.specs.Gate as gates
use Rattle.lg_gates.proofs.GateLemmas.{gate_word-loose, loose_word}
use Rattle.lg_netlist.specs.declared.netlist.Cell.{Cell}
use Rattle.lg_netlist.specs.declared.netlist.Cell.TheVariants as cell
use Rattle.lg_netlist.specs.declared.netlist.PartUse.{PartUse}
use Rattle.lg_netlist.specs.Cell.{State, cell_word}
use Rattle.lg_netlist.specs.Static.{word_on, word_at, inputs_of}
use Rattle.lg_netlist.specs.Valid.{TakesInputs}
use Rattle.lg_vresolve.specs.Meaning.{Valuation}
use Rattle.lg_export.specs.Layout.{input_wire, attached}
use Rattle.lg_export.proofs.Gates.{bit_of_digit, IsDefinedBit, bits_of, AreSmall, gate_bit-number, number_of-bit, gate_number_small, bit-number_of, number_of-small}
use Rattle.lg_export.proofs.Equations.{gate_number}
use Rattle.lg_export.proofs.Named.{x_names}

-- the attached ones among some inputs, from a number on
abbrev attached_from : ℕ → List (List ℕ) → List (ℕ × List ℕ)
attached_from k ports = filter (λ (i : ℕ × List ℕ). not (length i.1 == 0)) (enumerate_from k ports)

attached_words : (v : ℕ → Bit) (k : ℕ) (ports : List (List ℕ)) → gates.attached (map (word_at v) ports) ≡ map (λ (i : ℕ × List ℕ). word_on v i.1) (attached_from k ports)
attached_words v k [] = refl
attached_words v k ([] ∷ ports) = attached_words v (k + 1) ports
attached_words v k ((net ∷ bits) ∷ ports) =
    let some : (length (net ∷ bits) == 0) ≡ false = ne_eqb (length (net ∷ bits)) 0 (λ e. omega (arith, e)) in
    rw some (ap (λ (words : List (List Bit)). word_on v (net ∷ bits) ∷ words) (attached_words v (k + 1) ports))

-- an attached input of one bit has the number of its word
abbrev pub IsRead : (ℕ → Bit) → Valuation → ℕ → ℕ × List ℕ → Type 0
IsRead v val k i = (net : ℕ) × (i.1 ≡ net ∷ []) × IsDefinedBit (v net) × (val (input_wire k i.0) ≡ number_of (v net ∷ []))

first_bits : (v : ℕ → Bit) (val : Valuation) (k : ℕ) (is : List (ℕ × List ℕ)) → AllByRecursion (IsRead v val k) is
    → (bits_at 0 (map (λ (i : ℕ × List ℕ). word_on v i.1) is) ≡ bits_of val (x_names k is)) × AreSmall val (x_names k is)
first_bits v val k [] reads = (refl, tt)
first_bits v val k (i ∷ is) reads =
    let r = reads.0 in
    let rest = first_bits v val k is reads.1 in
    let bit : v r.0 ≡ bit_of_digit (val (input_wire k i.0)) = sym (ap bit_of_digit r.3 ∙ bit-number_of (v r.0) r.2) in (
      cons_bits (first (word_on v i.1)) (bit_of_digit (val (input_wire k i.0))) (bits_at 0 (map (λ (i : ℕ × List ℕ). word_on v i.1) is)) (bits_of val (x_names k is)) (ap (λ (bits : List ℕ). first (word_on v bits)) r.1 ∙ bit) rest.0,
      (subst (λ (number : ℕ). number < 2) (sym r.3) (number_of-small (v r.0) r.2), rest.1),
    )
  where
    first : List Bit → Bit
    first word = slice_index_or word 0 Unknown

    cons_bits : (a b : Bit) (xs ys : List Bit) → a ≡ b → xs ≡ ys → a ∷ xs ≡ b ∷ ys
    cons_bits a b xs ys e f = cc

-- what gates answer to some attached inputs of one bit
some_word : (g : GateKind) (inputs : List (Option (List Bit))) (words : List (List Bit)) (word : List Bit) (more : List (List Bit)) → gates.attached inputs ≡ words → words ≡ word ∷ more
    → gate_word g 1 inputs false ≡ gates.gate_bit g (bits_at 0 words) ∷ []
some_word g inputs words word more e f =
    gate_word-loose g 1 inputs ∙ (ap (loose_word g 1) (e ∙ f) ∙ ap (λ (ws : List (List Bit)). gates.gate_bit g (bits_at 0 ws) ∷ []) (sym f))

one_port : (ports : List (List ℕ)) (k : ℕ) → length ports ≡ 1 → 0 < length (attached_from k ports) → (bits : List ℕ) × (ports ≡ bits ∷ []) × (attached_from k ports ≡ (k, bits) ∷ [])
one_port [] k e some = absurd (omega (arith, e))
one_port ([] ∷ []) k e some = absurd (omega (arith, some))
one_port ((net ∷ bits) ∷ []) k e some =
    let attached : (length (net ∷ bits) == 0) ≡ false = ne_eqb (length (net ∷ bits)) 0 (λ e. omega (arith, e)) in
    (net ∷ bits, refl, rw attached refl)
one_port (a ∷ b ∷ more) k e some = absurd (omega (arith, e))

-- the word of a part's one bit, and the number that its equation gives
pub answered : (v : ℕ → Bit) (val : Valuation) (state : State) (k : ℕ) (p : PartUse) (name : List ℕ) (names : List (List ℕ)) → TakesInputs p.cell (length p.inputs)
    → AllByRecursion (IsRead v val k) (attached p) → x_names k (attached p) ≡ name ∷ names
    → cell_word p.cell state (inputs_of v p) 0 ≡ bit_of_digit (gate_number p.cell val name names) ∷ []
answered v val state k p name names takes reads first = by p.cell takes
  where
    bits : bits_at 0 (map (λ (i : ℕ × List ℕ). word_on v i.1) (attached p)) ≡ bits_of val (name ∷ names)
    bits = (first_bits v val k (attached p) reads).0 ∙ ap (bits_of val) first

    small : AreSmall val (name ∷ names)
    small = subst (AreSmall val) first (first_bits v val k (attached p) reads).1

    some : (is : List (ℕ × List ℕ)) → x_names k is ≡ name ∷ names → (word : List Bit) × (more : List (List Bit)) × (map (λ (i : ℕ × List ℕ). word_on v i.1) is ≡ word ∷ more)
    some [] e = absurd (cc e)
    some (i ∷ is) e = (word_on v i.1, map (λ (i : ℕ × List ℕ). word_on v i.1) is, refl)

    many : (g : GateKind) → gate_word g 1 (inputs_of v p) false ≡ gates.gate_bit g (bits_of val (name ∷ names)) ∷ []
    many g =
        let s = some (attached p) first in
        some_word g (inputs_of v p) (map (λ (i : ℕ × List ℕ). word_on v i.1) (attached p)) s.0 s.1 (attached_words v 0 p.inputs) s.2 ∙ ap (λ (bs : List Bit). gates.gate_bit g bs ∷ []) bits

    positive : (is : List (ℕ × List ℕ)) → x_names k is ≡ name ∷ names → 0 < length is
    positive [] e = absurd (cc e)
    positive (i ∷ is) e = omega arith

    by : (c : Cell) → TakesInputs c (length p.inputs) → cell_word c state (inputs_of v p) 0 ≡ bit_of_digit (gate_number c val name names) ∷ []
    by cell.Not takes =
        let one = one_port p.inputs 0 (omega (arith, takes.0, takes.1)) (positive (attached p) first) in
        inverted one.0 one.1 one.2
      where
        inverted : (bits : List ℕ) → p.inputs ≡ bits ∷ [] → attached p ≡ (0, bits) ∷ [] → cell_word cell.Not state (inputs_of v p) 0 ≡ bit_of_digit (gate_number cell.Not val name names) ∷ []
        inverted bits ports one =
            let r = (subst (AllByRecursion (IsRead v val k)) one reads).0 in
            let wire : input_wire k 0 ≡ name = same_head (input_wire k 0) name [] names (ap (x_names k) (sym one) ∙ first) in
            ap (λ (ports : List (List ℕ)). cell_word cell.Not state (map (word_at v) ports) 0) (ports ∙ ap (λ (bits : List ℕ). bits ∷ []) r.1)
            ∙ (ap (λ (b : Bit). not_bit b ∷ []) (sym (ap bit_of_digit r.3 ∙ bit-number_of (v r.0) r.2))
            ∙ (ap (λ (wire : List ℕ). not_bit (bit_of_digit (val wire)) ∷ []) wire ∙ ap (λ (b : Bit). b ∷ []) (gate_bit-number cell.Not val name names small)))
          where
            same_head : (a b : List ℕ) (xs ys : List (List ℕ)) → a ∷ xs ≡ b ∷ ys → a ≡ b
            same_head a b xs ys e = cc
    by cell.And takes = many kind.And ∙ ap (λ (b : Bit). b ∷ []) (gate_bit-number cell.And val name names small)
    by cell.Or takes = many kind.Or ∙ ap (λ (b : Bit). b ∷ []) (gate_bit-number cell.Or val name names small)

-- and that number
pub answered_number : (v : ℕ → Bit) (val : Valuation) (state : State) (k : ℕ) (p : PartUse) (name : List ℕ) (names : List (List ℕ)) → TakesInputs p.cell (length p.inputs)
    → AllByRecursion (IsRead v val k) (attached p) → x_names k (attached p) ≡ name ∷ names
    → number_of (cell_word p.cell state (inputs_of v p) 0) ≡ gate_number p.cell val name names
answered_number v val state k p name names takes reads first =
    let small = subst (AreSmall val) first (first_bits v val k (attached p) reads).1 in
    ap number_of (answered v val state k p name names takes reads first) ∙ number_of-bit (gate_number p.cell val name names) (gate_number_small p.cell val name names small.0 small.1)
