-- Forms of expressions, printed piece by piece.
use Rattle.std.proofs.Common.{◌≡◌, ℕ, List, ◌++◌, map, Result, Ok, Err, sym, ap, ◌∙◌, append_assoc}
use Rattle.std.specs.Prelude.{codes}
use Rattle.std.specs.Fmt.{decimal}
use Rattle.std.specs.Result.{OnOk}
use Rattle.lg_vtree.specs.declared.expr.Operator.{Operator}
use Rattle.lg_vtree.specs.declared.expr.Expr.{Expr}
use Rattle.lg_vtree.specs.declared.expr.Expr.TheOpen.{Expr-F}
use Rattle.lg_vtree.specs.declared.expr.Expr.TheVariants.{rolls-Bit, rolls-Part, rolls-Item, rolls-Join, rolls-Not, rolls-Binary, rolls-Choice}
use Rattle.lg_vtree.specs.declared.expr.Expr.TheVariants as expr
use Rattle.lg_vtree.specs.Printed.{operator_text, after_commas, expr_text}
use Rattle.lg_vprint.proofs.Told.{text-roll}

-- a piece after what is printed
then : (out one two a b : List ℕ) → one ≡ out ++ a → two ≡ one ++ b → two ≡ out ++ (a ++ b)
then out one two a b p q = q ∙ ap (λ (t : List ℕ). t ++ b) p ∙ append_assoc out a b

-- the last piece, which may fail
last : {T E : Type 0} (r : Result T E) (out one two a b whole : List ℕ) → one ≡ out ++ a → OnOk r (two ≡ one ++ b) → whole ≡ a ++ b → OnOk r (two ≡ out ++ whole)
last (Ok x) out one two a b whole p q w = then out one two a b p q ∙ ap (λ (t : List ℕ). out ++ t) (sym w)
last (Err x) out one two a b whole p q w = tt

-- a piece that is the text of an expression
piece : (b a : Expr) (one two : List ℕ) → b ≡ a → two ≡ one ++ expr_text b → two ≡ one ++ expr_text a
piece b a one two same q = q ∙ ap (λ x. one ++ expr_text x) same

module _ {T E : Type 0} (r : Result T E) (e : Expr) (out : List ℕ) where
  pub bit_printed : (name : List ℕ) (index : ℕ) (one two three : List ℕ) → e ≡ expr.Bit name index → one ≡ out ++ name ++ codes "[" → two ≡ one ++ decimal index → OnOk r (three ≡ two ++ codes "]") → OnOk r (three ≡ out ++ expr_text e)
  bit_printed name index one two three is p q s =
      last r out two three (name ++ codes "[" ++ decimal index) (codes "]") (expr_text e) (then out one two (name ++ codes "[") (decimal index) (p ∙ append_assoc out name (codes "[")) q) s
      (ap (λ x. expr_text x) is ∙ text-roll (Expr-F.Bit name index) (expr.Bit name index) (rolls-Bit name index))

  pub part_printed : (name : List ℕ) (high low : ℕ) (one two three four five : List ℕ) → e ≡ expr.Part name high low → one ≡ out ++ name ++ codes "[" → two ≡ one ++ decimal high → three ≡ two ++ codes ":" → four ≡ three ++ decimal low
      → OnOk r (five ≡ four ++ codes "]") → OnOk r (five ≡ out ++ expr_text e)
  part_printed name high low one two three four five is p q u v s =
      let first = then out one two (name ++ codes "[") (decimal high) (p ∙ append_assoc out name (codes "[")) q in
      let second = then out two three (name ++ codes "[" ++ decimal high) (codes ":") first u in
      let third = then out three four (name ++ codes "[" ++ decimal high ++ codes ":") (decimal low) second v in
      last r out four five (name ++ codes "[" ++ decimal high ++ codes ":" ++ decimal low) (codes "]") (expr_text e) third s
      (ap (λ x. expr_text x) is ∙ text-roll (Expr-F.Part name high low) (expr.Part name high low) (rolls-Part name high low))

  pub item_printed : (name : List ℕ) (a b : Expr) (one two three : List ℕ) → e ≡ expr.Item name a → b ≡ a → one ≡ out ++ name ++ codes "[" → two ≡ one ++ expr_text b → OnOk r (three ≡ two ++ codes "]") → OnOk r (three ≡ out ++ expr_text e)
  item_printed name a b one two three is same p q s =
      last r out two three (name ++ codes "[" ++ expr_text a) (codes "]") (expr_text e) (then out one two (name ++ codes "[") (expr_text a) (p ∙ append_assoc out name (codes "[")) (piece b a one two same q)) s
      (ap (λ x. expr_text x) is ∙ text-roll (Expr-F.Item name a) (expr.Item name a) (rolls-Item name a))

  pub not_printed : (a b : Expr) (one two three : List ℕ) → e ≡ expr.Not a → b ≡ a → one ≡ out ++ codes "(~" → two ≡ one ++ expr_text b → OnOk r (three ≡ two ++ codes ")") → OnOk r (three ≡ out ++ expr_text e)
  not_printed a b one two three is same p q s =
      last r out two three (codes "(~" ++ expr_text a) (codes ")") (expr_text e) (then out one two (codes "(~") (expr_text a) p (piece b a one two same q)) s
      (ap (λ x. expr_text x) is ∙ text-roll (Expr-F.Not a) (expr.Not a) (rolls-Not a))

  pub binary_printed : (a left : Expr) (op : Operator) (b right : Expr) (sign one two three four five six seven : List ℕ) → e ≡ expr.Binary a op b → left ≡ a → sign ≡ operator_text op → right ≡ b
      → one ≡ out ++ codes "(" → two ≡ one ++ expr_text left → three ≡ two ++ codes " " → four ≡ three ++ sign → five ≡ four ++ codes " " → six ≡ five ++ expr_text right → OnOk r (seven ≡ six ++ codes ")") → OnOk r (seven ≡ out ++ expr_text e)
  binary_printed a left op b right sign one two three four five six seven is same_left same_sign same_right p q u v w z s =
      let first = then out one two (codes "(") (expr_text a) p (piece left a one two same_left q) in
      let second = then out two three (codes "(" ++ expr_text a) (codes " ") first u in
      let third = then out three four (codes "(" ++ expr_text a ++ codes " ") (operator_text op) second (v ∙ ap (λ (t : List ℕ). three ++ t) same_sign) in
      let fourth = then out four five (codes "(" ++ expr_text a ++ codes " " ++ operator_text op) (codes " ") third w in
      let fifth = then out five six (codes "(" ++ expr_text a ++ codes " " ++ operator_text op ++ codes " ") (expr_text b) fourth (piece right b five six same_right z) in
      last r out six seven (codes "(" ++ expr_text a ++ codes " " ++ operator_text op ++ codes " " ++ expr_text b) (codes ")") (expr_text e) fifth s
      (ap (λ x. expr_text x) is ∙ text-roll (Expr-F.Binary a op b) (expr.Binary a op b) (rolls-Binary a op b))

  pub choice_printed : (c first a second b third : Expr) (one two three four five six seven : List ℕ) → e ≡ expr.Choice c a b → first ≡ c → second ≡ a → third ≡ b
      → one ≡ out ++ codes "(" → two ≡ one ++ expr_text first → three ≡ two ++ codes " ? " → four ≡ three ++ expr_text second → five ≡ four ++ codes " : " → six ≡ five ++ expr_text third → OnOk r (seven ≡ six ++ codes ")") → OnOk r (seven ≡ out ++ expr_text e)
  choice_printed c first a second b third one two three four five six seven is same_first same_second same_third p q u v w z s =
      let to_two = then out one two (codes "(") (expr_text c) p (piece first c one two same_first q) in
      let to_three = then out two three (codes "(" ++ expr_text c) (codes " ? ") to_two u in
      let to_four = then out three four (codes "(" ++ expr_text c ++ codes " ? ") (expr_text a) to_three (piece second a three four same_second v) in
      let to_five = then out four five (codes "(" ++ expr_text c ++ codes " ? " ++ expr_text a) (codes " : ") to_four w in
      let to_six = then out five six (codes "(" ++ expr_text c ++ codes " ? " ++ expr_text a ++ codes " : ") (expr_text b) to_five (piece third b five six same_third z) in
      last r out six seven (codes "(" ++ expr_text c ++ codes " ? " ++ expr_text a ++ codes " : " ++ expr_text b) (codes ")") (expr_text e) to_six s
      (ap (λ x. expr_text x) is ∙ text-roll (Expr-F.Choice c a b) (expr.Choice c a b) (rolls-Choice c a b))

-- the two that each join has
pub join_begun : (e a first b second : Expr) (more others : List Expr) (out one two three four : List ℕ) → e ≡ expr.Join a b more → first ≡ a → second ≡ b → others ≡ more
    → one ≡ out ++ codes "{" → two ≡ one ++ expr_text first → three ≡ two ++ codes ", " → four ≡ three ++ expr_text second → (four ++ after_commas (map expr_text others)) ++ codes "}" ≡ out ++ expr_text e
join_begun e a first b second more others out one two three four is same_first same_second same_others p q u v =
    let to_two = then out one two (codes "{") (expr_text a) p (piece first a one two same_first q) in
    let to_three = then out two three (codes "{" ++ expr_text a) (codes ", ") to_two u in
    let to_four = then out three four (codes "{" ++ expr_text a ++ codes ", ") (expr_text b) to_three (piece second b three four same_second v) in
    let before : List ℕ = codes "{" ++ expr_text a ++ codes ", " ++ expr_text b in
    ap (λ (es : List Expr). (four ++ after_commas (map expr_text es)) ++ codes "}") same_others
    ∙ ap (λ (t : List ℕ). (t ++ after_commas (map expr_text more)) ++ codes "}") to_four
    ∙ ap (λ (t : List ℕ). t ++ codes "}") (append_assoc out before (after_commas (map expr_text more)))
    ∙ append_assoc out (before ++ after_commas (map expr_text more)) (codes "}")
    ∙ ap (λ (t : List ℕ). out ++ t) (sym (ap (λ x. expr_text x) is ∙ text-roll (Expr-F.Join a b more) (expr.Join a b more) (rolls-Join a b more)))
