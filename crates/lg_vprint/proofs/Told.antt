-- The printed text of a module is a text of it in the grammar.
use Rattle.std.proofs.Common.{◌≡◌, ℕ, zero, suc, ◌≤◌, true, false, List, [], ◌∷◌, ◌++◌, map, Option, Some, None, refl, sym, ap, ◌∙◌, append_assoc, subst, arith}
use Rattle.std.specs.Prelude.{codes}
use Rattle.std.specs.Fmt.{decimal}
use Rattle.std.specs.List.{flat_map, list_all}
use Rattle.std.proofs.lemmas.Bool.{and_parts, and_from, and_right}
use Rattle.std.proofs.lemmas.Fmt.{decimal_digit}
use Rattle.lg_vtree.specs.declared.module.Direction.{Direction}
use Rattle.lg_vtree.specs.declared.module.Direction.TheVariants.{Input, Output}
use Rattle.lg_vtree.specs.declared.module.Port.{Port}
use Rattle.lg_vtree.specs.declared.module.Decl.{Decl}
use Rattle.lg_vtree.specs.declared.module.Decl.TheVariants as decl
use Rattle.lg_vtree.specs.declared.module.Fill.{Fill}
use Rattle.lg_vtree.specs.declared.module.Word.{Word}
use Rattle.lg_vtree.specs.declared.module.Init.{Init}
use Rattle.lg_vtree.specs.declared.module.Assign.{Assign}
use Rattle.lg_vtree.specs.declared.module.EdgeKind.{EdgeKind}
use Rattle.lg_vtree.specs.declared.module.EdgeKind.TheVariants.{Rising, Falling}
use Rattle.lg_vtree.specs.declared.module.Stmt.{Stmt}
use Rattle.lg_vtree.specs.declared.module.Stmt.TheVariants as stmt
use Rattle.lg_vtree.specs.declared.module.Edge.{Edge}
use Rattle.lg_vtree.specs.declared.module.Module.{Module}
use Rattle.lg_vtree.specs.declared.expr.Operator.{Operator}
use Rattle.lg_vtree.specs.declared.expr.Operator.TheVariants as operator
use Rattle.lg_vtree.specs.declared.expr.Expr.{Expr, fold-Expr, roll-Expr, out-Expr, roll-out-Expr}
use Rattle.lg_vtree.specs.declared.expr.Expr.TheFolds.{fold-roll-Expr}
use Rattle.lg_vtree.specs.declared.expr.Expr.TheOpen.{Expr-F}
use Rattle.lg_vtree.specs.declared.expr.Expr.TheVariants.{rolls-Const, rolls-Whole, rolls-Bit, rolls-Part, rolls-Item, rolls-Join, rolls-Not, rolls-Binary, rolls-Choice}
use Rattle.lg_vtree.specs.declared.expr.Expr.TheVariants as expr
use Rattle.lg_vtree.specs.Printed.{range_text, constant_text, operator_text, after_commas, form_text, expr_text, direction_text, port_text, ports_text, decl_text, loop_text, fill_text, word_text, starts_text, init_text, assign_text, always_text, stmt_text, edge_text, head_text, module_text}
use Rattle.lg_vtree.specs.Grammar.{Token, Fixed, Named, Number, Sized, token_text, is_white, begins_word, Spells, range_tokens, expr_tokens, direction_token, port_tokens, ports_tokens, decl_tokens, fill_tokens, word_tokens, init_tokens, assign_tokens, edge_token, stmt_tokens, edge_tokens, module_tokens, IsTree, IsModuleText}
use Rattle.lg_vtree.specs.Depth.{greatest, depth}
use Rattle.lg_vtree.proofs.Unrolled.{tokens-Const, tokens-Whole, tokens-Bit, tokens-Part, tokens-Item, tokens-Not, tokens-Binary, tokens-Choice, depth-Item, depth-Join, depth-Not, depth-Binary, depth-Choice, others_tokens, join_spelled, some_depth}

-- pieces one after the other

as1 : (p0 rest : List ℕ) → (p0) ++ rest ≡ p0 ++ (rest)
as1 p0 rest = refl

as2 : (p0 p1 rest : List ℕ) → (p0 ++ p1) ++ rest ≡ p0 ++ (p1 ++ (rest))
as2 p0 p1 rest = simp append_assoc

as3 : (p0 p1 p2 rest : List ℕ) → (p0 ++ p1 ++ p2) ++ rest ≡ p0 ++ (p1 ++ (p2 ++ (rest)))
as3 p0 p1 p2 rest = simp append_assoc

as4 : (p0 p1 p2 p3 rest : List ℕ) → (p0 ++ p1 ++ p2 ++ p3) ++ rest ≡ p0 ++ (p1 ++ (p2 ++ (p3 ++ (rest))))
as4 p0 p1 p2 p3 rest = simp append_assoc

as5 : (p0 p1 p2 p3 p4 rest : List ℕ) → (p0 ++ p1 ++ p2 ++ p3 ++ p4) ++ rest ≡ p0 ++ (p1 ++ (p2 ++ (p3 ++ (p4 ++ (rest)))))
as5 p0 p1 p2 p3 p4 rest = simp append_assoc

as6 : (p0 p1 p2 p3 p4 p5 rest : List ℕ) → (p0 ++ p1 ++ p2 ++ p3 ++ p4 ++ p5) ++ rest ≡ p0 ++ (p1 ++ (p2 ++ (p3 ++ (p4 ++ (p5 ++ (rest))))))
as6 p0 p1 p2 p3 p4 p5 rest = simp append_assoc

as7 : (p0 p1 p2 p3 p4 p5 p6 rest : List ℕ) → (p0 ++ p1 ++ p2 ++ p3 ++ p4 ++ p5 ++ p6) ++ rest ≡ p0 ++ (p1 ++ (p2 ++ (p3 ++ (p4 ++ (p5 ++ (p6 ++ (rest)))))))
as7 p0 p1 p2 p3 p4 p5 p6 rest = simp append_assoc

as8 : (p0 p1 p2 p3 p4 p5 p6 p7 rest : List ℕ) → (p0 ++ p1 ++ p2 ++ p3 ++ p4 ++ p5 ++ p6 ++ p7) ++ rest ≡ p0 ++ (p1 ++ (p2 ++ (p3 ++ (p4 ++ (p5 ++ (p6 ++ (p7 ++ (rest))))))))
as8 p0 p1 p2 p3 p4 p5 p6 p7 rest = simp append_assoc

as9 : (p0 p1 p2 p3 p4 p5 p6 p7 p8 rest : List ℕ) → (p0 ++ p1 ++ p2 ++ p3 ++ p4 ++ p5 ++ p6 ++ p7 ++ p8) ++ rest ≡ p0 ++ (p1 ++ (p2 ++ (p3 ++ (p4 ++ (p5 ++ (p6 ++ (p7 ++ (p8 ++ (rest)))))))))
as9 p0 p1 p2 p3 p4 p5 p6 p7 p8 rest = simp append_assoc

as10 : (p0 p1 p2 p3 p4 p5 p6 p7 p8 p9 rest : List ℕ) → (p0 ++ p1 ++ p2 ++ p3 ++ p4 ++ p5 ++ p6 ++ p7 ++ p8 ++ p9) ++ rest ≡ p0 ++ (p1 ++ (p2 ++ (p3 ++ (p4 ++ (p5 ++ (p6 ++ (p7 ++ (p8 ++ (p9 ++ (rest))))))))))
as10 p0 p1 p2 p3 p4 p5 p6 p7 p8 p9 rest = simp append_assoc

as11 : (p0 p1 p2 p3 p4 p5 p6 p7 p8 p9 p10 rest : List ℕ) → (p0 ++ p1 ++ p2 ++ p3 ++ p4 ++ p5 ++ p6 ++ p7 ++ p8 ++ p9 ++ p10) ++ rest ≡ p0 ++ (p1 ++ (p2 ++ (p3 ++ (p4 ++ (p5 ++ (p6 ++ (p7 ++ (p8 ++ (p9 ++ (p10 ++ (rest)))))))))))
as11 p0 p1 p2 p3 p4 p5 p6 p7 p8 p9 p10 rest = simp append_assoc

-- bytes that spell these tokens
abbrev Told : List Token → List ℕ → Type 0
Told ts bytes = Spells (map token_text ts) bytes

told_white : (c : ℕ) (ts : List Token) (bytes : List ℕ) → is_white c ≡ true → Told ts bytes → Told ts (c ∷ bytes)
told_white c [] bytes w h = and_from (is_white c) (list_all is_white bytes) w h
told_white c (t ∷ ts) bytes w h =
    let k = h.1 in
    (h.0, record { white = c ∷ k.white; is_white = and_from (is_white c) (list_all is_white k.white) w k.is_white; spelled = ap (λ r. c ∷ r) k.spelled; apart = k.apart }, h.2)

spaced : (white : List ℕ) → list_all is_white white ≡ true → (ts : List Token) (bytes : List ℕ) → Told ts bytes → Told ts (white ++ bytes)
spaced [] w ts bytes h = h
spaced (c ∷ white) w ts bytes h = let p = and_parts (is_white c) (list_all is_white white) w in told_white c ts (white ++ bytes) p.0 (spaced white p.1 ts bytes h)

moved : (ts us : List Token) (b c : List ℕ) → ts ≡ us → b ≡ c → Told us c → Told ts b
moved ts us b c p q h = subst (λ t. Told t b) (sym p) (subst (Told us) (sym q) h)

-- expressions

pub text-roll : (f : Expr-F Expr) (e : Expr) → roll-Expr f ≡ e → expr_text e ≡ form_text (Rattle.lg_vtree.specs.declared.expr.Expr.TheFolds.map-Expr _ (List ℕ) expr_text f)
text-roll f e r = ap (λ x. fold-Expr (List ℕ) form_text x) (sym r) ∙ fold-roll-Expr (List ℕ) form_text f

-- an expression, behind white space and before what does not run into it
abbrev Puts : Expr → Type 0
Puts e = (ts : List Token) (rest : List ℕ) → begins_word rest ≡ false → Told ts rest → Told (expr_tokens e ++ ts) (expr_text e ++ rest)

after_white : (e : Expr) → Puts e → (white : List ℕ) → list_all is_white white ≡ true → (ts : List Token) (rest : List ℕ) → begins_word rest ≡ false → Told ts rest → Told (expr_tokens e ++ ts) (white ++ (expr_text e ++ rest))
after_white e puts white w ts rest stop h = spaced white w (expr_tokens e ++ ts) (expr_text e ++ rest) (puts ts rest stop h)

operator_told : (op : Operator) (ts : List Token) (rest : List ℕ) → Told ts rest → Told (Fixed (operator_text op) ∷ ts) (codes " " ++ (operator_text op ++ rest))
operator_told operator.And ts rest h = (rest, record { white = codes " "; is_white = refl; spelled = refl; apart = refl }, h)
operator_told operator.Or ts rest h = (rest, record { white = codes " "; is_white = refl; spelled = refl; apart = refl }, h)
operator_told operator.Xor ts rest h = (rest, record { white = codes " "; is_white = refl; spelled = refl; apart = refl }, h)
operator_told operator.Add ts rest h = (rest, record { white = codes " "; is_white = refl; spelled = refl; apart = refl }, h)
operator_told operator.Subtract ts rest h = (rest, record { white = codes " "; is_white = refl; spelled = refl; apart = refl }, h)
operator_told operator.Multiply ts rest h = (rest, record { white = codes " "; is_white = refl; spelled = refl; apart = refl }, h)
operator_told operator.Divide ts rest h = (rest, record { white = codes " "; is_white = refl; spelled = refl; apart = refl }, h)
operator_told operator.Remainder ts rest h = (rest, record { white = codes " "; is_white = refl; spelled = refl; apart = refl }, h)
operator_told operator.Equal ts rest h = (rest, record { white = codes " "; is_white = refl; spelled = refl; apart = refl }, h)
operator_told operator.Less ts rest h = (rest, record { white = codes " "; is_white = refl; spelled = refl; apart = refl }, h)
operator_told operator.ShiftLeft ts rest h = (rest, record { white = codes " "; is_white = refl; spelled = refl; apart = refl }, h)
operator_told operator.ShiftRight ts rest h = (rest, record { white = codes " "; is_white = refl; spelled = refl; apart = refl }, h)

module _ (n : ℕ) (inner : (e : Expr) → depth e ≤ n → Puts e) where
  abbrev Deeply : Expr → Type 0
  Deeply e = depth e ≤ suc n → Puts e

  others_told : (es : List Expr) → greatest (map depth es) ≤ n → (ts : List Token) (rest : List ℕ) → begins_word rest ≡ false → Told ts rest → (Told (others_tokens es ++ ts) (after_commas (map expr_text es) ++ rest)) × (begins_word (after_commas (map expr_text es) ++ rest) ≡ false)
  others_told [] deep ts rest stop h = (h, stop)
  others_told (e ∷ es) deep ts rest stop h =
      let more = others_told es (omega arith) ts rest stop h in
      let behind : List ℕ = after_commas (map expr_text es) ++ rest in (
        moved ((Fixed (codes ",") ∷ expr_tokens e ++ others_tokens es) ++ ts) (Fixed (codes ",") ∷ (expr_tokens e ++ (others_tokens es ++ ts))) (((codes ", " ++ expr_text e) ++ after_commas (map expr_text es)) ++ rest) (codes "," ++ (codes " " ++ (expr_text e ++ behind)))
            (ap (λ r. Fixed (codes ",") ∷ r) (append_assoc (expr_tokens e) (others_tokens es) ts))
            (append_assoc (codes ", " ++ expr_text e) (after_commas (map expr_text es)) rest)
            (codes " " ++ (expr_text e ++ behind), record { white = []; is_white = refl; spelled = refl; apart = refl }, after_white e (inner e (omega arith)) (codes " ") refl (others_tokens es ++ ts) behind more.1 more.0),
        refl,
      )

  form_told : (f : Expr-F Expr) → Deeply (roll-Expr f)
  form_told (Expr-F.Const c) = subst Deeply (sym (rolls-Const c)) (λ deep ts rest stop h.
      moved (expr_tokens (expr.Const c) ++ ts) (Sized c ∷ ts) (expr_text (expr.Const c) ++ rest) (constant_text c ++ (rest)) (ap (λ t. t ++ ts) (tokens-Const c)) (ap (λ b. b ++ rest) (text-roll (Expr-F.Const c) (expr.Const c) (rolls-Const c)) ∙ as1 (constant_text c) rest) ((rest, record { white = []; is_white = refl; spelled = refl; apart = and_right (begins_word (constant_text c)) (begins_word (rest)) stop }, h)))
  form_told (Expr-F.Whole name) = subst Deeply (sym (rolls-Whole name)) (λ deep ts rest stop h.
      moved (expr_tokens (expr.Whole name) ++ ts) (Named name ∷ ts) (expr_text (expr.Whole name) ++ rest) (name ++ (rest)) (ap (λ t. t ++ ts) (tokens-Whole name)) (ap (λ b. b ++ rest) (text-roll (Expr-F.Whole name) (expr.Whole name) (rolls-Whole name)) ∙ as1 name rest) ((rest, record { white = []; is_white = refl; spelled = refl; apart = and_right (begins_word (name)) (begins_word (rest)) stop }, h)))
  form_told (Expr-F.Bit name index) = subst Deeply (sym (rolls-Bit name index)) (λ deep ts rest stop h.
      moved (expr_tokens (expr.Bit name index) ++ ts) (Named name ∷ Fixed (codes "[") ∷ Number index ∷ Fixed (codes "]") ∷ ts) (expr_text (expr.Bit name index) ++ rest) (name ++ ((codes "[") ++ (decimal index ++ ((codes "]") ++ (rest))))) (ap (λ t. t ++ ts) (tokens-Bit name index)) (ap (λ b. b ++ rest) (text-roll (Expr-F.Bit name index) (expr.Bit name index) (rolls-Bit name index)) ∙ as4 name (codes "[") (decimal index) (codes "]") rest) (((codes "[") ++ (decimal index ++ ((codes "]") ++ (rest))), record { white = []; is_white = refl; spelled = refl; apart = and_right (begins_word (name)) (begins_word ((codes "[") ++ (decimal index ++ ((codes "]") ++ (rest))))) refl }, (decimal index ++ ((codes "]") ++ (rest)), record { white = []; is_white = refl; spelled = refl; apart = refl }, ((codes "]") ++ (rest), record { white = []; is_white = refl; spelled = refl; apart = and_right (begins_word (decimal index)) (begins_word ((codes "]") ++ (rest))) refl }, (rest, record { white = []; is_white = refl; spelled = refl; apart = refl }, h))))))
  form_told (Expr-F.Part name high low) = subst Deeply (sym (rolls-Part name high low)) (λ deep ts rest stop h.
      moved (expr_tokens (expr.Part name high low) ++ ts) (Named name ∷ Fixed (codes "[") ∷ Number high ∷ Fixed (codes ":") ∷ Number low ∷ Fixed (codes "]") ∷ ts) (expr_text (expr.Part name high low) ++ rest) (name ++ ((codes "[") ++ (decimal high ++ ((codes ":") ++ (decimal low ++ ((codes "]") ++ (rest))))))) (ap (λ t. t ++ ts) (tokens-Part name high low)) (ap (λ b. b ++ rest) (text-roll (Expr-F.Part name high low) (expr.Part name high low) (rolls-Part name high low)) ∙ as6 name (codes "[") (decimal high) (codes ":") (decimal low) (codes "]") rest) (((codes "[") ++ (decimal high ++ ((codes ":") ++ (decimal low ++ ((codes "]") ++ (rest))))), record { white = []; is_white = refl; spelled = refl; apart = and_right (begins_word (name)) (begins_word ((codes "[") ++ (decimal high ++ ((codes ":") ++ (decimal low ++ ((codes "]") ++ (rest))))))) refl }, (decimal high ++ ((codes ":") ++ (decimal low ++ ((codes "]") ++ (rest)))), record { white = []; is_white = refl; spelled = refl; apart = refl }, ((codes ":") ++ (decimal low ++ ((codes "]") ++ (rest))), record { white = []; is_white = refl; spelled = refl; apart = and_right (begins_word (decimal high)) (begins_word ((codes ":") ++ (decimal low ++ ((codes "]") ++ (rest))))) refl }, (decimal low ++ ((codes "]") ++ (rest)), record { white = []; is_white = refl; spelled = refl; apart = refl }, ((codes "]") ++ (rest), record { white = []; is_white = refl; spelled = refl; apart = and_right (begins_word (decimal low)) (begins_word ((codes "]") ++ (rest))) refl }, (rest, record { white = []; is_white = refl; spelled = refl; apart = refl }, h))))))))
  form_told (Expr-F.Item name x) = subst Deeply (sym (rolls-Item name x)) (λ deep ts rest stop h.
      moved (expr_tokens (expr.Item name x) ++ ts) (Named name ∷ Fixed (codes "[") ∷ (expr_tokens x ++ (Fixed (codes "]") ∷ ts))) (expr_text (expr.Item name x) ++ rest) (name ++ ((codes "[") ++ (expr_text x ++ ((codes "]") ++ (rest))))) (ap (λ t. t ++ ts) (tokens-Item name x) ∙ ap (λ r. Named name ∷ Fixed (codes "[") ∷ r) (append_assoc (expr_tokens x) (Fixed (codes "]") ∷ []) ts)) (ap (λ b. b ++ rest) (text-roll (Expr-F.Item name x) (expr.Item name x) (rolls-Item name x)) ∙ as4 name (codes "[") (expr_text x) (codes "]") rest) (((codes "[") ++ (expr_text x ++ ((codes "]") ++ (rest))), record { white = []; is_white = refl; spelled = refl; apart = and_right (begins_word (name)) (begins_word ((codes "[") ++ (expr_text x ++ ((codes "]") ++ (rest))))) refl }, (expr_text x ++ ((codes "]") ++ (rest)), record { white = []; is_white = refl; spelled = refl; apart = refl }, after_white x (inner x (omega (arith, deep, depth-Item name x))) [] refl (Fixed (codes "]") ∷ ts) ((codes "]") ++ (rest)) refl (rest, record { white = []; is_white = refl; spelled = refl; apart = refl }, h)))))
  form_told (Expr-F.Not x) = subst Deeply (sym (rolls-Not x)) (λ deep ts rest stop h.
      moved (expr_tokens (expr.Not x) ++ ts) (Fixed (codes "(") ∷ Fixed (codes "~") ∷ (expr_tokens x ++ (Fixed (codes ")") ∷ ts))) (expr_text (expr.Not x) ++ rest) ((codes "(") ++ ((codes "~") ++ (expr_text x ++ ((codes ")") ++ (rest))))) (ap (λ t. t ++ ts) (tokens-Not x) ∙ ap (λ r. Fixed (codes "(") ∷ Fixed (codes "~") ∷ r) (append_assoc (expr_tokens x) (Fixed (codes ")") ∷ []) ts)) (ap (λ b. b ++ rest) (text-roll (Expr-F.Not x) (expr.Not x) (rolls-Not x)) ∙ as3 (codes "(~") (expr_text x) (codes ")") rest) (((codes "~") ++ (expr_text x ++ ((codes ")") ++ (rest))), record { white = []; is_white = refl; spelled = refl; apart = refl }, (expr_text x ++ ((codes ")") ++ (rest)), record { white = []; is_white = refl; spelled = refl; apart = refl }, after_white x (inner x (omega (arith, deep, depth-Not x))) [] refl (Fixed (codes ")") ∷ ts) ((codes ")") ++ (rest)) refl (rest, record { white = []; is_white = refl; spelled = refl; apart = refl }, h)))))
  form_told (Expr-F.Binary a op b) = subst Deeply (sym (rolls-Binary a op b)) (λ deep ts rest stop h.
      let d = depth-Binary a op b in
      let end : List ℕ = codes ")" ++ rest in
      let right : List ℕ = codes " " ++ (expr_text b ++ end) in
      let middle : List ℕ = codes " " ++ (operator_text op ++ right) in
      let last : List Token = Fixed (codes ")") ∷ ts in
      moved (expr_tokens (expr.Binary a op b) ++ ts) (Fixed (codes "(") ∷ (expr_tokens a ++ Fixed (operator_text op) ∷ (expr_tokens b ++ last))) (expr_text (expr.Binary a op b) ++ rest) (codes "(" ++ (expr_text a ++ middle))
      (ap (λ t. t ++ ts) (tokens-Binary a op b) ∙ ap (λ r. Fixed (codes "(") ∷ r) (append_assoc (expr_tokens a) (Fixed (operator_text op) ∷ (expr_tokens b ++ Fixed (codes ")") ∷ [])) ts ∙ ap (λ r. expr_tokens a ++ Fixed (operator_text op) ∷ r) (append_assoc (expr_tokens b) (Fixed (codes ")") ∷ []) ts)))
      (ap (λ b. b ++ rest) (text-roll (Expr-F.Binary a op b) (expr.Binary a op b) (rolls-Binary a op b)) ∙ as7 (codes "(") (expr_text a) (codes " ") (operator_text op) (codes " ") (expr_text b) (codes ")") rest) (
        expr_text a ++ middle,
        record { white = []; is_white = refl; spelled = refl; apart = refl },
        inner a (omega (arith, deep, d)) (Fixed (operator_text op) ∷ (expr_tokens b ++ last)) middle refl (operator_told op (expr_tokens b ++ last) right
            (after_white b (inner b (omega (arith, deep, d))) (codes " ") refl last end refl (rest, record { white = []; is_white = refl; spelled = refl; apart = refl }, h))),
      ))
  form_told (Expr-F.Choice c a b) = subst Deeply (sym (rolls-Choice c a b)) (λ deep ts rest stop h.
      moved (expr_tokens (expr.Choice c a b) ++ ts) (Fixed (codes "(") ∷ (expr_tokens c ++ (Fixed (codes "?") ∷ (expr_tokens a ++ (Fixed (codes ":") ∷ (expr_tokens b ++ (Fixed (codes ")") ∷ ts))))))) (expr_text (expr.Choice c a b) ++ rest) ((codes "(") ++ (expr_text c ++ ((codes " ") ++ ((codes "?") ++ ((codes " ") ++ (expr_text a ++ ((codes " ") ++ ((codes ":") ++ ((codes " ") ++ (expr_text b ++ ((codes ")") ++ (rest)))))))))))) (ap (λ t. t ++ ts) (tokens-Choice c a b) ∙ ap (λ r. Fixed (codes "(") ∷ r) (append_assoc (expr_tokens c) (Fixed (codes "?") ∷ (expr_tokens a ++ Fixed (codes ":") ∷ (expr_tokens b ++ Fixed (codes ")") ∷ []))) ts ∙ ap (λ r. expr_tokens c ++ Fixed (codes "?") ∷ r) (append_assoc (expr_tokens a) (Fixed (codes ":") ∷ (expr_tokens b ++ Fixed (codes ")") ∷ [])) ts ∙ ap (λ r. expr_tokens a ++ Fixed (codes ":") ∷ r) (append_assoc (expr_tokens b) (Fixed (codes ")") ∷ []) ts)))) (ap (λ b. b ++ rest) (text-roll (Expr-F.Choice c a b) (expr.Choice c a b) (rolls-Choice c a b)) ∙ as7 (codes "(") (expr_text c) (codes " ? ") (expr_text a) (codes " : ") (expr_text b) (codes ")") rest) ((expr_text c ++ ((codes " ") ++ ((codes "?") ++ ((codes " ") ++ (expr_text a ++ ((codes " ") ++ ((codes ":") ++ ((codes " ") ++ (expr_text b ++ ((codes ")") ++ (rest)))))))))), record { white = []; is_white = refl; spelled = refl; apart = refl }, after_white c (inner c (omega (arith, deep, depth-Choice c a b))) [] refl (Fixed (codes "?") ∷ (expr_tokens a ++ (Fixed (codes ":") ∷ (expr_tokens b ++ (Fixed (codes ")") ∷ ts))))) ((codes " ") ++ ((codes "?") ++ ((codes " ") ++ (expr_text a ++ ((codes " ") ++ ((codes ":") ++ ((codes " ") ++ (expr_text b ++ ((codes ")") ++ (rest)))))))))) refl ((codes " ") ++ (expr_text a ++ ((codes " ") ++ ((codes ":") ++ ((codes " ") ++ (expr_text b ++ ((codes ")") ++ (rest))))))), record { white = (codes " "); is_white = refl; spelled = refl; apart = refl }, after_white a (inner a (omega (arith, deep, depth-Choice c a b))) (codes " ") refl (Fixed (codes ":") ∷ (expr_tokens b ++ (Fixed (codes ")") ∷ ts))) ((codes " ") ++ ((codes ":") ++ ((codes " ") ++ (expr_text b ++ ((codes ")") ++ (rest)))))) refl ((codes " ") ++ (expr_text b ++ ((codes ")") ++ (rest))), record { white = (codes " "); is_white = refl; spelled = refl; apart = refl }, after_white b (inner b (omega (arith, deep, depth-Choice c a b))) (codes " ") refl (Fixed (codes ")") ∷ ts) ((codes ")") ++ (rest)) refl (rest, record { white = []; is_white = refl; spelled = refl; apart = refl }, h))))))
  form_told (Expr-F.Join a b more) = subst Deeply (sym (rolls-Join a b more)) (λ deep ts rest stop h.
      let d = depth-Join a b more in
      let end : List ℕ = codes "}" ++ rest in
      let others : List ℕ = after_commas (map expr_text more) ++ end in
      let right : List ℕ = codes " " ++ (expr_text b ++ others) in
      let last : List Token = Fixed (codes "}") ∷ ts in
      let told = others_told more (omega (arith, deep, d)) last end refl (rest, record { white = []; is_white = refl; spelled = refl; apart = refl }, h) in
      moved (expr_tokens (expr.Join a b more) ++ ts) (Fixed (codes "{") ∷ (expr_tokens a ++ Fixed (codes ",") ∷ (expr_tokens b ++ (others_tokens more ++ last)))) (expr_text (expr.Join a b more) ++ rest) (codes "{" ++ (expr_text a ++ (codes "," ++ right)))
      (join_spelled a b more ts)
      (ap (λ b. b ++ rest) (text-roll (Expr-F.Join a b more) (expr.Join a b more) (rolls-Join a b more)) ∙ as6 (codes "{") (expr_text a) (codes ", ") (expr_text b) (after_commas (map expr_text more)) (codes "}") rest) (
        expr_text a ++ (codes "," ++ right),
        record { white = []; is_white = refl; spelled = refl; apart = refl },
        inner a (omega (arith, deep, d)) (Fixed (codes ",") ∷ (expr_tokens b ++ (others_tokens more ++ last))) (codes "," ++ right) refl (
          right,
          record { white = []; is_white = refl; spelled = refl; apart = refl },
          after_white b (inner b (omega (arith, deep, d))) (codes " ") refl (others_tokens more ++ last) others told.1 told.0,
        ),
      ))

deep_told : (n : ℕ) (e : Expr) → depth e ≤ n → Puts e
deep_told zero e deep ts rest stop h = absurd (some_depth e deep)
deep_told (suc n) e deep ts rest stop h = subst (Deeply n (deep_told n)) (roll-out-Expr e) (form_told n (deep_told n) (out-Expr e)) deep ts rest stop h

pub expr_told : (e : Expr) → Puts e
expr_told e = deep_told (depth e) e (omega arith)

number_0 : decimal 0 ≡ codes "0"
number_0 = decimal_digit 0 (omega arith)

number_1 : decimal 1 ≡ codes "1"
number_1 = decimal_digit 1 (omega arith)

-- declarations

range_told : (range : Option ℕ) → (ts : List Token) (rest : List ℕ) → Told ts rest → Told (range_tokens range ++ ts) (range_text range ++ rest)
range_told None ts rest h = h
range_told (Some high) ts rest h =
    moved (range_tokens (Some high) ++ ts) (Fixed (codes "[") ∷ (Number high ∷ (Fixed (codes ":") ∷ (Number 0 ∷ (Fixed (codes "]") ∷ (ts)))))) (range_text (Some high) ++ rest) ((codes "[") ++ (decimal high ++ ((codes ":") ++ ((codes "0") ++ ((codes "]") ++ ((codes " ") ++ rest)))))) (refl) (as3 (codes "[") (decimal high) (codes ":0] ") rest)
    ((decimal high ++ ((codes ":") ++ ((codes "0") ++ ((codes "]") ++ ((codes " ") ++ (rest))))), record { white = []; is_white = refl; spelled = refl; apart = refl }, ((codes ":") ++ ((codes "0") ++ ((codes "]") ++ ((codes " ") ++ (rest)))), record { white = []; is_white = refl; spelled = refl; apart = and_right (begins_word (decimal high)) (begins_word ((codes ":") ++ ((codes "0") ++ ((codes "]") ++ ((codes " ") ++ (rest)))))) refl }, ((codes "0") ++ ((codes "]") ++ ((codes " ") ++ (rest))), record { white = []; is_white = refl; spelled = refl; apart = refl }, ((codes "]") ++ ((codes " ") ++ (rest)), record { white = []; is_white = refl; spelled = ap (λ (z : List ℕ). [] ++ (z ++ ((codes "]") ++ ((codes " ") ++ (rest))))) (sym number_0); apart = and_right (begins_word (decimal 0)) (begins_word ((codes "]") ++ ((codes " ") ++ (rest)))) refl }, ((codes " ") ++ (rest), record { white = []; is_white = refl; spelled = refl; apart = refl }, spaced (codes " ") refl (ts) (rest) (h)))))))

port_parts : (d : Direction) (range : Option ℕ) (name : List ℕ) (ts : List Token) (rest : List ℕ) → begins_word rest ≡ false → Told ts rest → Told ((direction_token d ∷ Fixed (codes "wire") ∷ (range_tokens range ++ Named name ∷ [])) ++ ts) ((codes "  " ++ direction_text d ++ range_text range ++ name) ++ rest)
port_parts Input range name ts rest stop h =
    moved ((direction_token Input ∷ Fixed (codes "wire") ∷ (range_tokens range ++ Named name ∷ [])) ++ ts) (Fixed (codes "input") ∷ (Fixed (codes "wire") ∷ (range_tokens range ++ (Named name ∷ (ts))))) ((codes "  " ++ direction_text Input ++ range_text range ++ name) ++ rest) ((codes "  ") ++ ((codes "input") ++ ((codes " ") ++ ((codes "wire") ++ ((codes " ") ++ (range_text range ++ (name ++ (rest)))))))) (ap (λ r. direction_token Input ∷ Fixed (codes "wire") ∷ r) (append_assoc (range_tokens range) (Named name ∷ []) ts)) (as4 (codes "  ") (direction_text Input) (range_text range) name rest)
    (((codes " ") ++ ((codes "wire") ++ ((codes " ") ++ (range_text range ++ (name ++ (rest))))), record { white = (codes "  "); is_white = refl; spelled = refl; apart = refl }, ((codes " ") ++ (range_text range ++ (name ++ (rest))), record { white = (codes " "); is_white = refl; spelled = refl; apart = refl }, spaced (codes " ") refl (range_tokens range ++ (Named name ∷ (ts))) (range_text range ++ (name ++ (rest))) (range_told range (Named name ∷ (ts)) (name ++ (rest)) ((rest, record { white = []; is_white = refl; spelled = refl; apart = and_right (begins_word (name)) (begins_word (rest)) stop }, h))))))
port_parts Output range name ts rest stop h =
    moved ((direction_token Output ∷ Fixed (codes "wire") ∷ (range_tokens range ++ Named name ∷ [])) ++ ts) (Fixed (codes "output") ∷ (Fixed (codes "wire") ∷ (range_tokens range ++ (Named name ∷ (ts))))) ((codes "  " ++ direction_text Output ++ range_text range ++ name) ++ rest) ((codes "  ") ++ ((codes "output") ++ ((codes " ") ++ ((codes "wire") ++ ((codes " ") ++ (range_text range ++ (name ++ (rest)))))))) (ap (λ r. direction_token Output ∷ Fixed (codes "wire") ∷ r) (append_assoc (range_tokens range) (Named name ∷ []) ts)) (as4 (codes "  ") (direction_text Output) (range_text range) name rest)
    (((codes " ") ++ ((codes "wire") ++ ((codes " ") ++ (range_text range ++ (name ++ (rest))))), record { white = (codes "  "); is_white = refl; spelled = refl; apart = refl }, ((codes " ") ++ (range_text range ++ (name ++ (rest))), record { white = (codes " "); is_white = refl; spelled = refl; apart = refl }, spaced (codes " ") refl (range_tokens range ++ (Named name ∷ (ts))) (range_text range ++ (name ++ (rest))) (range_told range (Named name ∷ (ts)) (name ++ (rest)) ((rest, record { white = []; is_white = refl; spelled = refl; apart = and_right (begins_word (name)) (begins_word (rest)) stop }, h))))))

port_told : (p : Port) (ts : List Token) (rest : List ℕ) → begins_word rest ≡ false → Told ts rest → Told (port_tokens p ++ ts) (port_text p ++ rest)
port_told p ts rest stop h = port_parts p.direction p.range p.name ts rest stop h

abbrev more_tokens : List Port → List Token
more_tokens ps = flat_map (λ (q : Port). Fixed (codes ",") ∷ port_tokens q) ps

ports_some : (p : Port) (ps : List Port) (ts : List Token) (rest : List ℕ) → Told ts rest → Told (port_tokens p ++ (more_tokens ps ++ ts)) (ports_text (p ∷ ps) ++ rest)
ports_some p [] ts rest h =
    subst (Told (port_tokens p ++ ts)) (sym (append_assoc (port_text p) (codes "\n") rest)) (port_told p ts (codes "\n" ++ rest) refl (spaced (codes "\n") refl ts rest h))
ports_some p (q ∷ ps) ts rest h =
    let behind : List ℕ = ports_text (q ∷ ps) ++ rest in
    let others : List Token = port_tokens q ++ (more_tokens ps ++ ts) in
    moved (port_tokens p ++ (((Fixed (codes ",") ∷ port_tokens q) ++ more_tokens ps) ++ ts)) (port_tokens p ++ Fixed (codes ",") ∷ others) (ports_text (p ∷ q ∷ ps) ++ rest) (port_text p ++ (codes ",\n" ++ behind))
    (ap (λ r. port_tokens p ++ Fixed (codes ",") ∷ r) (append_assoc (port_tokens q) (more_tokens ps) ts))
    (as3 (port_text p) (codes ",\n") (ports_text (q ∷ ps)) rest)
    (port_told p (Fixed (codes ",") ∷ others) (codes ",\n" ++ behind) refl (codes "\n" ++ behind, record { white = []; is_white = refl; spelled = refl; apart = refl }, spaced (codes "\n") refl others behind (ports_some q ps ts rest h)))

ports_told : (ps : List Port) (ts : List Token) (rest : List ℕ) → Told ts rest → Told (ports_tokens ps ++ ts) (ports_text ps ++ rest)
ports_told [] ts rest h = h
ports_told (p ∷ ps) ts rest h = subst (λ t. Told t (ports_text (p ∷ ps) ++ rest)) (sym (append_assoc (port_tokens p) (more_tokens ps) ts)) (ports_some p ps ts rest h)

decl_told : (d : Decl) (ts : List Token) (rest : List ℕ) → Told ts rest → Told (decl_tokens d ++ ts) (decl_text d ++ rest)
decl_told (decl.Wire range name) ts rest h =
    moved (decl_tokens (decl.Wire range name) ++ ts) (Fixed (codes "wire") ∷ (range_tokens range ++ (Named name ∷ (Fixed (codes ";") ∷ (ts))))) (decl_text (decl.Wire range name) ++ rest) ((codes "  ") ++ ((codes "wire") ++ ((codes " ") ++ (range_text range ++ (name ++ ((codes ";") ++ ((codes "\n") ++ rest))))))) (ap (λ r. Fixed (codes "wire") ∷ r) (append_assoc (range_tokens range) (Named name ∷ Fixed (codes ";") ∷ []) ts)) (as4 (codes "  wire ") (range_text range) name (codes ";\n") rest)
    (((codes " ") ++ (range_text range ++ (name ++ ((codes ";") ++ ((codes "\n") ++ (rest))))), record { white = (codes "  "); is_white = refl; spelled = refl; apart = refl }, spaced (codes " ") refl (range_tokens range ++ (Named name ∷ (Fixed (codes ";") ∷ (ts)))) (range_text range ++ (name ++ ((codes ";") ++ ((codes "\n") ++ (rest))))) (range_told range (Named name ∷ (Fixed (codes ";") ∷ (ts))) (name ++ ((codes ";") ++ ((codes "\n") ++ (rest)))) (((codes ";") ++ ((codes "\n") ++ (rest)), record { white = []; is_white = refl; spelled = refl; apart = and_right (begins_word (name)) (begins_word ((codes ";") ++ ((codes "\n") ++ (rest)))) refl }, ((codes "\n") ++ (rest), record { white = []; is_white = refl; spelled = refl; apart = refl }, spaced (codes "\n") refl (ts) (rest) (h)))))))
decl_told (decl.Reg range name start) ts rest h =
    moved (decl_tokens (decl.Reg range name start) ++ ts) (Fixed (codes "reg") ∷ (range_tokens range ++ (Named name ∷ (Fixed (codes "=") ∷ (Sized start ∷ (Fixed (codes ";") ∷ (ts))))))) (decl_text (decl.Reg range name start) ++ rest) ((codes "  ") ++ ((codes "reg") ++ ((codes " ") ++ (range_text range ++ (name ++ ((codes " ") ++ ((codes "=") ++ ((codes " ") ++ (constant_text start ++ ((codes ";") ++ ((codes "\n") ++ rest))))))))))) (ap (λ r. Fixed (codes "reg") ∷ r) (append_assoc (range_tokens range) (Named name ∷ Fixed (codes "=") ∷ Sized start ∷ Fixed (codes ";") ∷ []) ts)) (as6 (codes "  reg ") (range_text range) name (codes " = ") (constant_text start) (codes ";\n") rest)
    (((codes " ") ++ (range_text range ++ (name ++ ((codes " ") ++ ((codes "=") ++ ((codes " ") ++ (constant_text start ++ ((codes ";") ++ ((codes "\n") ++ (rest))))))))), record { white = (codes "  "); is_white = refl; spelled = refl; apart = refl }, spaced (codes " ") refl (range_tokens range ++ (Named name ∷ (Fixed (codes "=") ∷ (Sized start ∷ (Fixed (codes ";") ∷ (ts)))))) (range_text range ++ (name ++ ((codes " ") ++ ((codes "=") ++ ((codes " ") ++ (constant_text start ++ ((codes ";") ++ ((codes "\n") ++ (rest))))))))) (range_told range (Named name ∷ (Fixed (codes "=") ∷ (Sized start ∷ (Fixed (codes ";") ∷ (ts))))) (name ++ ((codes " ") ++ ((codes "=") ++ ((codes " ") ++ (constant_text start ++ ((codes ";") ++ ((codes "\n") ++ (rest)))))))) (((codes " ") ++ ((codes "=") ++ ((codes " ") ++ (constant_text start ++ ((codes ";") ++ ((codes "\n") ++ (rest)))))), record { white = []; is_white = refl; spelled = refl; apart = and_right (begins_word (name)) (begins_word ((codes " ") ++ ((codes "=") ++ ((codes " ") ++ (constant_text start ++ ((codes ";") ++ ((codes "\n") ++ (rest)))))))) refl }, ((codes " ") ++ (constant_text start ++ ((codes ";") ++ ((codes "\n") ++ (rest)))), record { white = (codes " "); is_white = refl; spelled = refl; apart = refl }, ((codes ";") ++ ((codes "\n") ++ (rest)), record { white = (codes " "); is_white = refl; spelled = refl; apart = and_right (begins_word (constant_text start)) (begins_word ((codes ";") ++ ((codes "\n") ++ (rest)))) refl }, ((codes "\n") ++ (rest), record { white = []; is_white = refl; spelled = refl; apart = refl }, spaced (codes "\n") refl (ts) (rest) (h)))))))))
decl_told (decl.Memory range name last) ts rest h =
    moved (decl_tokens (decl.Memory range name last) ++ ts) (Fixed (codes "reg") ∷ (range_tokens range ++ (Named name ∷ (Fixed (codes "[") ∷ (Number 0 ∷ (Fixed (codes ":") ∷ (Number last ∷ (Fixed (codes "]") ∷ (Fixed (codes ";") ∷ (ts)))))))))) (decl_text (decl.Memory range name last) ++ rest) ((codes "  ") ++ ((codes "reg") ++ ((codes " ") ++ (range_text range ++ (name ++ ((codes " ") ++ ((codes "[") ++ ((codes "0") ++ ((codes ":") ++ (decimal last ++ ((codes "]") ++ ((codes ";") ++ ((codes "\n") ++ rest))))))))))))) (ap (λ r. Fixed (codes "reg") ∷ r) (append_assoc (range_tokens range) (Named name ∷ Fixed (codes "[") ∷ Number 0 ∷ Fixed (codes ":") ∷ Number last ∷ Fixed (codes "]") ∷ Fixed (codes ";") ∷ []) ts)) (as6 (codes "  reg ") (range_text range) name (codes " [0:") (decimal last) (codes "];\n") rest)
    (((codes " ") ++ (range_text range ++ (name ++ ((codes " ") ++ ((codes "[") ++ ((codes "0") ++ ((codes ":") ++ (decimal last ++ ((codes "]") ++ ((codes ";") ++ ((codes "\n") ++ (rest))))))))))), record { white = (codes "  "); is_white = refl; spelled = refl; apart = refl }, spaced (codes " ") refl (range_tokens range ++ (Named name ∷ (Fixed (codes "[") ∷ (Number 0 ∷ (Fixed (codes ":") ∷ (Number last ∷ (Fixed (codes "]") ∷ (Fixed (codes ";") ∷ (ts))))))))) (range_text range ++ (name ++ ((codes " ") ++ ((codes "[") ++ ((codes "0") ++ ((codes ":") ++ (decimal last ++ ((codes "]") ++ ((codes ";") ++ ((codes "\n") ++ (rest))))))))))) (range_told range (Named name ∷ (Fixed (codes "[") ∷ (Number 0 ∷ (Fixed (codes ":") ∷ (Number last ∷ (Fixed (codes "]") ∷ (Fixed (codes ";") ∷ (ts)))))))) (name ++ ((codes " ") ++ ((codes "[") ++ ((codes "0") ++ ((codes ":") ++ (decimal last ++ ((codes "]") ++ ((codes ";") ++ ((codes "\n") ++ (rest)))))))))) (((codes " ") ++ ((codes "[") ++ ((codes "0") ++ ((codes ":") ++ (decimal last ++ ((codes "]") ++ ((codes ";") ++ ((codes "\n") ++ (rest)))))))), record { white = []; is_white = refl; spelled = refl; apart = and_right (begins_word (name)) (begins_word ((codes " ") ++ ((codes "[") ++ ((codes "0") ++ ((codes ":") ++ (decimal last ++ ((codes "]") ++ ((codes ";") ++ ((codes "\n") ++ (rest)))))))))) refl }, ((codes "0") ++ ((codes ":") ++ (decimal last ++ ((codes "]") ++ ((codes ";") ++ ((codes "\n") ++ (rest)))))), record { white = (codes " "); is_white = refl; spelled = refl; apart = refl }, ((codes ":") ++ (decimal last ++ ((codes "]") ++ ((codes ";") ++ ((codes "\n") ++ (rest))))), record { white = []; is_white = refl; spelled = ap (λ (z : List ℕ). [] ++ (z ++ ((codes ":") ++ (decimal last ++ ((codes "]") ++ ((codes ";") ++ ((codes "\n") ++ (rest)))))))) (sym number_0); apart = and_right (begins_word (decimal 0)) (begins_word ((codes ":") ++ (decimal last ++ ((codes "]") ++ ((codes ";") ++ ((codes "\n") ++ (rest))))))) refl }, (decimal last ++ ((codes "]") ++ ((codes ";") ++ ((codes "\n") ++ (rest)))), record { white = []; is_white = refl; spelled = refl; apart = refl }, ((codes "]") ++ ((codes ";") ++ ((codes "\n") ++ (rest))), record { white = []; is_white = refl; spelled = refl; apart = and_right (begins_word (decimal last)) (begins_word ((codes "]") ++ ((codes ";") ++ ((codes "\n") ++ (rest))))) refl }, ((codes ";") ++ ((codes "\n") ++ (rest)), record { white = []; is_white = refl; spelled = refl; apart = refl }, ((codes "\n") ++ (rest), record { white = []; is_white = refl; spelled = refl; apart = refl }, spaced (codes "\n") refl (ts) (rest) (h))))))))))))

-- inits

fill_told : (f : Fill) (ts : List Token) (rest : List ℕ) → Told ts rest → Told (fill_tokens f ++ ts) (fill_text f ++ rest)
unfolding fill_text
fill_told f ts rest h =
    moved (fill_tokens f ++ ts) (Fixed (codes "for") ∷ (Fixed (codes "(") ∷ (Fixed (codes "k") ∷ (Fixed (codes "=") ∷ (Number 0 ∷ (Fixed (codes ";") ∷ (Fixed (codes "k") ∷ (Fixed (codes "<") ∷ (Number f.count ∷ (Fixed (codes ";") ∷ (Fixed (codes "k") ∷ (Fixed (codes "=") ∷ (Fixed (codes "k") ∷ (Fixed (codes "+") ∷ (Number 1 ∷ (Fixed (codes ")") ∷ (Named f.name ∷ (Fixed (codes "[") ∷ (Fixed (codes "k") ∷ (Fixed (codes "]") ∷ (Fixed (codes "=") ∷ (Sized f.value ∷ (Fixed (codes ";") ∷ (ts)))))))))))))))))))))))) (fill_text f ++ rest) ((codes "    ") ++ ((codes "for") ++ ((codes " ") ++ ((codes "(") ++ ((codes "k") ++ ((codes " ") ++ ((codes "=") ++ ((codes " ") ++ ((codes "0") ++ ((codes ";") ++ ((codes " ") ++ ((codes "k") ++ ((codes " ") ++ ((codes "<") ++ ((codes " ") ++ (decimal f.count ++ ((codes ";") ++ ((codes " ") ++ ((codes "k") ++ ((codes " ") ++ ((codes "=") ++ ((codes " ") ++ ((codes "k") ++ ((codes " ") ++ ((codes "+") ++ ((codes " ") ++ ((codes "1") ++ ((codes ")") ++ ((codes " ") ++ (f.name ++ ((codes "[") ++ ((codes "k") ++ ((codes "]") ++ ((codes " ") ++ ((codes "=") ++ ((codes " ") ++ (constant_text f.value ++ ((codes ";") ++ ((codes "\n") ++ rest))))))))))))))))))))))))))))))))))))))) (refl) (as5 (loop_text f.count) f.name (codes "[k] = ") (constant_text f.value) (codes ";\n") rest ∙ as3 (codes "    for (k = 0; k < ") (decimal f.count) (codes "; k = k + 1) ") (f.name ++ (codes "[k] = " ++ (constant_text f.value ++ (codes ";\n" ++ rest)))))
    (((codes " ") ++ ((codes "(") ++ ((codes "k") ++ ((codes " ") ++ ((codes "=") ++ ((codes " ") ++ ((codes "0") ++ ((codes ";") ++ ((codes " ") ++ ((codes "k") ++ ((codes " ") ++ ((codes "<") ++ ((codes " ") ++ (decimal f.count ++ ((codes ";") ++ ((codes " ") ++ ((codes "k") ++ ((codes " ") ++ ((codes "=") ++ ((codes " ") ++ ((codes "k") ++ ((codes " ") ++ ((codes "+") ++ ((codes " ") ++ ((codes "1") ++ ((codes ")") ++ ((codes " ") ++ (f.name ++ ((codes "[") ++ ((codes "k") ++ ((codes "]") ++ ((codes " ") ++ ((codes "=") ++ ((codes " ") ++ (constant_text f.value ++ ((codes ";") ++ ((codes "\n") ++ (rest))))))))))))))))))))))))))))))))))))), record { white = (codes "    "); is_white = refl; spelled = refl; apart = refl }, ((codes "k") ++ ((codes " ") ++ ((codes "=") ++ ((codes " ") ++ ((codes "0") ++ ((codes ";") ++ ((codes " ") ++ ((codes "k") ++ ((codes " ") ++ ((codes "<") ++ ((codes " ") ++ (decimal f.count ++ ((codes ";") ++ ((codes " ") ++ ((codes "k") ++ ((codes " ") ++ ((codes "=") ++ ((codes " ") ++ ((codes "k") ++ ((codes " ") ++ ((codes "+") ++ ((codes " ") ++ ((codes "1") ++ ((codes ")") ++ ((codes " ") ++ (f.name ++ ((codes "[") ++ ((codes "k") ++ ((codes "]") ++ ((codes " ") ++ ((codes "=") ++ ((codes " ") ++ (constant_text f.value ++ ((codes ";") ++ ((codes "\n") ++ (rest))))))))))))))))))))))))))))))))))), record { white = (codes " "); is_white = refl; spelled = refl; apart = refl }, ((codes " ") ++ ((codes "=") ++ ((codes " ") ++ ((codes "0") ++ ((codes ";") ++ ((codes " ") ++ ((codes "k") ++ ((codes " ") ++ ((codes "<") ++ ((codes " ") ++ (decimal f.count ++ ((codes ";") ++ ((codes " ") ++ ((codes "k") ++ ((codes " ") ++ ((codes "=") ++ ((codes " ") ++ ((codes "k") ++ ((codes " ") ++ ((codes "+") ++ ((codes " ") ++ ((codes "1") ++ ((codes ")") ++ ((codes " ") ++ (f.name ++ ((codes "[") ++ ((codes "k") ++ ((codes "]") ++ ((codes " ") ++ ((codes "=") ++ ((codes " ") ++ (constant_text f.value ++ ((codes ";") ++ ((codes "\n") ++ (rest)))))))))))))))))))))))))))))))))), record { white = []; is_white = refl; spelled = refl; apart = refl }, ((codes " ") ++ ((codes "0") ++ ((codes ";") ++ ((codes " ") ++ ((codes "k") ++ ((codes " ") ++ ((codes "<") ++ ((codes " ") ++ (decimal f.count ++ ((codes ";") ++ ((codes " ") ++ ((codes "k") ++ ((codes " ") ++ ((codes "=") ++ ((codes " ") ++ ((codes "k") ++ ((codes " ") ++ ((codes "+") ++ ((codes " ") ++ ((codes "1") ++ ((codes ")") ++ ((codes " ") ++ (f.name ++ ((codes "[") ++ ((codes "k") ++ ((codes "]") ++ ((codes " ") ++ ((codes "=") ++ ((codes " ") ++ (constant_text f.value ++ ((codes ";") ++ ((codes "\n") ++ (rest)))))))))))))))))))))))))))))))), record { white = (codes " "); is_white = refl; spelled = refl; apart = refl }, ((codes ";") ++ ((codes " ") ++ ((codes "k") ++ ((codes " ") ++ ((codes "<") ++ ((codes " ") ++ (decimal f.count ++ ((codes ";") ++ ((codes " ") ++ ((codes "k") ++ ((codes " ") ++ ((codes "=") ++ ((codes " ") ++ ((codes "k") ++ ((codes " ") ++ ((codes "+") ++ ((codes " ") ++ ((codes "1") ++ ((codes ")") ++ ((codes " ") ++ (f.name ++ ((codes "[") ++ ((codes "k") ++ ((codes "]") ++ ((codes " ") ++ ((codes "=") ++ ((codes " ") ++ (constant_text f.value ++ ((codes ";") ++ ((codes "\n") ++ (rest)))))))))))))))))))))))))))))), record { white = (codes " "); is_white = refl; spelled = ap (λ (z : List ℕ). (codes " ") ++ (z ++ ((codes ";") ++ ((codes " ") ++ ((codes "k") ++ ((codes " ") ++ ((codes "<") ++ ((codes " ") ++ (decimal f.count ++ ((codes ";") ++ ((codes " ") ++ ((codes "k") ++ ((codes " ") ++ ((codes "=") ++ ((codes " ") ++ ((codes "k") ++ ((codes " ") ++ ((codes "+") ++ ((codes " ") ++ ((codes "1") ++ ((codes ")") ++ ((codes " ") ++ (f.name ++ ((codes "[") ++ ((codes "k") ++ ((codes "]") ++ ((codes " ") ++ ((codes "=") ++ ((codes " ") ++ (constant_text f.value ++ ((codes ";") ++ ((codes "\n") ++ (rest))))))))))))))))))))))))))))))))) (sym number_0); apart = and_right (begins_word (decimal 0)) (begins_word ((codes ";") ++ ((codes " ") ++ ((codes "k") ++ ((codes " ") ++ ((codes "<") ++ ((codes " ") ++ (decimal f.count ++ ((codes ";") ++ ((codes " ") ++ ((codes "k") ++ ((codes " ") ++ ((codes "=") ++ ((codes " ") ++ ((codes "k") ++ ((codes " ") ++ ((codes "+") ++ ((codes " ") ++ ((codes "1") ++ ((codes ")") ++ ((codes " ") ++ (f.name ++ ((codes "[") ++ ((codes "k") ++ ((codes "]") ++ ((codes " ") ++ ((codes "=") ++ ((codes " ") ++ (constant_text f.value ++ ((codes ";") ++ ((codes "\n") ++ (rest)))))))))))))))))))))))))))))))) refl }, ((codes " ") ++ ((codes "k") ++ ((codes " ") ++ ((codes "<") ++ ((codes " ") ++ (decimal f.count ++ ((codes ";") ++ ((codes " ") ++ ((codes "k") ++ ((codes " ") ++ ((codes "=") ++ ((codes " ") ++ ((codes "k") ++ ((codes " ") ++ ((codes "+") ++ ((codes " ") ++ ((codes "1") ++ ((codes ")") ++ ((codes " ") ++ (f.name ++ ((codes "[") ++ ((codes "k") ++ ((codes "]") ++ ((codes " ") ++ ((codes "=") ++ ((codes " ") ++ (constant_text f.value ++ ((codes ";") ++ ((codes "\n") ++ (rest))))))))))))))))))))))))))))), record { white = []; is_white = refl; spelled = refl; apart = refl }, ((codes " ") ++ ((codes "<") ++ ((codes " ") ++ (decimal f.count ++ ((codes ";") ++ ((codes " ") ++ ((codes "k") ++ ((codes " ") ++ ((codes "=") ++ ((codes " ") ++ ((codes "k") ++ ((codes " ") ++ ((codes "+") ++ ((codes " ") ++ ((codes "1") ++ ((codes ")") ++ ((codes " ") ++ (f.name ++ ((codes "[") ++ ((codes "k") ++ ((codes "]") ++ ((codes " ") ++ ((codes "=") ++ ((codes " ") ++ (constant_text f.value ++ ((codes ";") ++ ((codes "\n") ++ (rest))))))))))))))))))))))))))), record { white = (codes " "); is_white = refl; spelled = refl; apart = refl }, ((codes " ") ++ (decimal f.count ++ ((codes ";") ++ ((codes " ") ++ ((codes "k") ++ ((codes " ") ++ ((codes "=") ++ ((codes " ") ++ ((codes "k") ++ ((codes " ") ++ ((codes "+") ++ ((codes " ") ++ ((codes "1") ++ ((codes ")") ++ ((codes " ") ++ (f.name ++ ((codes "[") ++ ((codes "k") ++ ((codes "]") ++ ((codes " ") ++ ((codes "=") ++ ((codes " ") ++ (constant_text f.value ++ ((codes ";") ++ ((codes "\n") ++ (rest))))))))))))))))))))))))), record { white = (codes " "); is_white = refl; spelled = refl; apart = refl }, ((codes ";") ++ ((codes " ") ++ ((codes "k") ++ ((codes " ") ++ ((codes "=") ++ ((codes " ") ++ ((codes "k") ++ ((codes " ") ++ ((codes "+") ++ ((codes " ") ++ ((codes "1") ++ ((codes ")") ++ ((codes " ") ++ (f.name ++ ((codes "[") ++ ((codes "k") ++ ((codes "]") ++ ((codes " ") ++ ((codes "=") ++ ((codes " ") ++ (constant_text f.value ++ ((codes ";") ++ ((codes "\n") ++ (rest))))))))))))))))))))))), record { white = (codes " "); is_white = refl; spelled = refl; apart = and_right (begins_word (decimal f.count)) (begins_word ((codes ";") ++ ((codes " ") ++ ((codes "k") ++ ((codes " ") ++ ((codes "=") ++ ((codes " ") ++ ((codes "k") ++ ((codes " ") ++ ((codes "+") ++ ((codes " ") ++ ((codes "1") ++ ((codes ")") ++ ((codes " ") ++ (f.name ++ ((codes "[") ++ ((codes "k") ++ ((codes "]") ++ ((codes " ") ++ ((codes "=") ++ ((codes " ") ++ (constant_text f.value ++ ((codes ";") ++ ((codes "\n") ++ (rest))))))))))))))))))))))))) refl }, ((codes " ") ++ ((codes "k") ++ ((codes " ") ++ ((codes "=") ++ ((codes " ") ++ ((codes "k") ++ ((codes " ") ++ ((codes "+") ++ ((codes " ") ++ ((codes "1") ++ ((codes ")") ++ ((codes " ") ++ (f.name ++ ((codes "[") ++ ((codes "k") ++ ((codes "]") ++ ((codes " ") ++ ((codes "=") ++ ((codes " ") ++ (constant_text f.value ++ ((codes ";") ++ ((codes "\n") ++ (rest)))))))))))))))))))))), record { white = []; is_white = refl; spelled = refl; apart = refl }, ((codes " ") ++ ((codes "=") ++ ((codes " ") ++ ((codes "k") ++ ((codes " ") ++ ((codes "+") ++ ((codes " ") ++ ((codes "1") ++ ((codes ")") ++ ((codes " ") ++ (f.name ++ ((codes "[") ++ ((codes "k") ++ ((codes "]") ++ ((codes " ") ++ ((codes "=") ++ ((codes " ") ++ (constant_text f.value ++ ((codes ";") ++ ((codes "\n") ++ (rest)))))))))))))))))))), record { white = (codes " "); is_white = refl; spelled = refl; apart = refl }, ((codes " ") ++ ((codes "k") ++ ((codes " ") ++ ((codes "+") ++ ((codes " ") ++ ((codes "1") ++ ((codes ")") ++ ((codes " ") ++ (f.name ++ ((codes "[") ++ ((codes "k") ++ ((codes "]") ++ ((codes " ") ++ ((codes "=") ++ ((codes " ") ++ (constant_text f.value ++ ((codes ";") ++ ((codes "\n") ++ (rest)))))))))))))))))), record { white = (codes " "); is_white = refl; spelled = refl; apart = refl }, ((codes " ") ++ ((codes "+") ++ ((codes " ") ++ ((codes "1") ++ ((codes ")") ++ ((codes " ") ++ (f.name ++ ((codes "[") ++ ((codes "k") ++ ((codes "]") ++ ((codes " ") ++ ((codes "=") ++ ((codes " ") ++ (constant_text f.value ++ ((codes ";") ++ ((codes "\n") ++ (rest)))))))))))))))), record { white = (codes " "); is_white = refl; spelled = refl; apart = refl }, ((codes " ") ++ ((codes "1") ++ ((codes ")") ++ ((codes " ") ++ (f.name ++ ((codes "[") ++ ((codes "k") ++ ((codes "]") ++ ((codes " ") ++ ((codes "=") ++ ((codes " ") ++ (constant_text f.value ++ ((codes ";") ++ ((codes "\n") ++ (rest)))))))))))))), record { white = (codes " "); is_white = refl; spelled = refl; apart = refl }, ((codes ")") ++ ((codes " ") ++ (f.name ++ ((codes "[") ++ ((codes "k") ++ ((codes "]") ++ ((codes " ") ++ ((codes "=") ++ ((codes " ") ++ (constant_text f.value ++ ((codes ";") ++ ((codes "\n") ++ (rest)))))))))))), record { white = (codes " "); is_white = refl; spelled = ap (λ (z : List ℕ). (codes " ") ++ (z ++ ((codes ")") ++ ((codes " ") ++ (f.name ++ ((codes "[") ++ ((codes "k") ++ ((codes "]") ++ ((codes " ") ++ ((codes "=") ++ ((codes " ") ++ (constant_text f.value ++ ((codes ";") ++ ((codes "\n") ++ (rest))))))))))))))) (sym number_1); apart = and_right (begins_word (decimal 1)) (begins_word ((codes ")") ++ ((codes " ") ++ (f.name ++ ((codes "[") ++ ((codes "k") ++ ((codes "]") ++ ((codes " ") ++ ((codes "=") ++ ((codes " ") ++ (constant_text f.value ++ ((codes ";") ++ ((codes "\n") ++ (rest)))))))))))))) refl }, ((codes " ") ++ (f.name ++ ((codes "[") ++ ((codes "k") ++ ((codes "]") ++ ((codes " ") ++ ((codes "=") ++ ((codes " ") ++ (constant_text f.value ++ ((codes ";") ++ ((codes "\n") ++ (rest))))))))))), record { white = []; is_white = refl; spelled = refl; apart = refl }, ((codes "[") ++ ((codes "k") ++ ((codes "]") ++ ((codes " ") ++ ((codes "=") ++ ((codes " ") ++ (constant_text f.value ++ ((codes ";") ++ ((codes "\n") ++ (rest))))))))), record { white = (codes " "); is_white = refl; spelled = refl; apart = and_right (begins_word (f.name)) (begins_word ((codes "[") ++ ((codes "k") ++ ((codes "]") ++ ((codes " ") ++ ((codes "=") ++ ((codes " ") ++ (constant_text f.value ++ ((codes ";") ++ ((codes "\n") ++ (rest))))))))))) refl }, ((codes "k") ++ ((codes "]") ++ ((codes " ") ++ ((codes "=") ++ ((codes " ") ++ (constant_text f.value ++ ((codes ";") ++ ((codes "\n") ++ (rest)))))))), record { white = []; is_white = refl; spelled = refl; apart = refl }, ((codes "]") ++ ((codes " ") ++ ((codes "=") ++ ((codes " ") ++ (constant_text f.value ++ ((codes ";") ++ ((codes "\n") ++ (rest))))))), record { white = []; is_white = refl; spelled = refl; apart = refl }, ((codes " ") ++ ((codes "=") ++ ((codes " ") ++ (constant_text f.value ++ ((codes ";") ++ ((codes "\n") ++ (rest)))))), record { white = []; is_white = refl; spelled = refl; apart = refl }, ((codes " ") ++ (constant_text f.value ++ ((codes ";") ++ ((codes "\n") ++ (rest)))), record { white = (codes " "); is_white = refl; spelled = refl; apart = refl }, ((codes ";") ++ ((codes "\n") ++ (rest)), record { white = (codes " "); is_white = refl; spelled = refl; apart = and_right (begins_word (constant_text f.value)) (begins_word ((codes ";") ++ ((codes "\n") ++ (rest)))) refl }, ((codes "\n") ++ (rest), record { white = []; is_white = refl; spelled = refl; apart = refl }, spaced (codes "\n") refl (ts) (rest) (h)))))))))))))))))))))))))

word_told : (w : Word) (ts : List Token) (rest : List ℕ) → Told ts rest → Told (word_tokens w ++ ts) (word_text w ++ rest)
word_told w ts rest h =
    moved (word_tokens w ++ ts) (Named w.name ∷ (Fixed (codes "[") ∷ (Number w.address ∷ (Fixed (codes "]") ∷ (Fixed (codes "=") ∷ (Sized w.value ∷ (Fixed (codes ";") ∷ (ts)))))))) (word_text w ++ rest) ((codes "    ") ++ (w.name ++ ((codes "[") ++ (decimal w.address ++ ((codes "]") ++ ((codes " ") ++ ((codes "=") ++ ((codes " ") ++ (constant_text w.value ++ ((codes ";") ++ ((codes "\n") ++ rest))))))))))) (refl) (as7 (codes "    ") w.name (codes "[") (decimal w.address) (codes "] = ") (constant_text w.value) (codes ";\n") rest)
    (((codes "[") ++ (decimal w.address ++ ((codes "]") ++ ((codes " ") ++ ((codes "=") ++ ((codes " ") ++ (constant_text w.value ++ ((codes ";") ++ ((codes "\n") ++ (rest))))))))), record { white = (codes "    "); is_white = refl; spelled = refl; apart = and_right (begins_word (w.name)) (begins_word ((codes "[") ++ (decimal w.address ++ ((codes "]") ++ ((codes " ") ++ ((codes "=") ++ ((codes " ") ++ (constant_text w.value ++ ((codes ";") ++ ((codes "\n") ++ (rest))))))))))) refl }, (decimal w.address ++ ((codes "]") ++ ((codes " ") ++ ((codes "=") ++ ((codes " ") ++ (constant_text w.value ++ ((codes ";") ++ ((codes "\n") ++ (rest)))))))), record { white = []; is_white = refl; spelled = refl; apart = refl }, ((codes "]") ++ ((codes " ") ++ ((codes "=") ++ ((codes " ") ++ (constant_text w.value ++ ((codes ";") ++ ((codes "\n") ++ (rest))))))), record { white = []; is_white = refl; spelled = refl; apart = and_right (begins_word (decimal w.address)) (begins_word ((codes "]") ++ ((codes " ") ++ ((codes "=") ++ ((codes " ") ++ (constant_text w.value ++ ((codes ";") ++ ((codes "\n") ++ (rest))))))))) refl }, ((codes " ") ++ ((codes "=") ++ ((codes " ") ++ (constant_text w.value ++ ((codes ";") ++ ((codes "\n") ++ (rest)))))), record { white = []; is_white = refl; spelled = refl; apart = refl }, ((codes " ") ++ (constant_text w.value ++ ((codes ";") ++ ((codes "\n") ++ (rest)))), record { white = (codes " "); is_white = refl; spelled = refl; apart = refl }, ((codes ";") ++ ((codes "\n") ++ (rest)), record { white = (codes " "); is_white = refl; spelled = refl; apart = and_right (begins_word (constant_text w.value)) (begins_word ((codes ";") ++ ((codes "\n") ++ (rest)))) refl }, ((codes "\n") ++ (rest), record { white = []; is_white = refl; spelled = refl; apart = refl }, spaced (codes "\n") refl (ts) (rest) (h)))))))))

many_told : {A : Type 0} (tokens : A → List Token) (text : A → List ℕ) → ((x : A) (ts : List Token) (rest : List ℕ) → Told ts rest → Told (tokens x ++ ts) (text x ++ rest)) → (xs : List A) (ts : List Token) (rest : List ℕ) → Told ts rest → Told (flat_map tokens xs ++ ts) (flat_map text xs ++ rest)
many_told tokens text each [] ts rest h = h
many_told tokens text each (x ∷ xs) ts rest h =
    moved ((tokens x ++ flat_map tokens xs) ++ ts) (tokens x ++ (flat_map tokens xs ++ ts)) ((text x ++ flat_map text xs) ++ rest) (text x ++ (flat_map text xs ++ rest)) (append_assoc (tokens x) (flat_map tokens xs) ts) (append_assoc (text x) (flat_map text xs) rest)
    (each x (flat_map tokens xs ++ ts) (flat_map text xs ++ rest) (many_told tokens text each xs ts rest h))

init_told : (i : Option Init) (ts : List Token) (rest : List ℕ) → Told ts rest → Told (init_tokens i ++ ts) (init_text i ++ rest)
init_told None ts rest h = h
init_told (Some i) ts rest h =
    moved (init_tokens (Some i) ++ ts) (Fixed (codes "integer") ∷ (Fixed (codes "k") ∷ (Fixed (codes ";") ∷ (Fixed (codes "initial") ∷ (Fixed (codes "begin") ∷ (flat_map fill_tokens i.fills ++ (flat_map word_tokens i.words ++ (Fixed (codes "end") ∷ (ts))))))))) (init_text (Some i) ++ rest) ((codes "  ") ++ ((codes "integer") ++ ((codes " ") ++ ((codes "k") ++ ((codes ";") ++ ((codes "\n  ") ++ ((codes "initial") ++ ((codes " ") ++ ((codes "begin") ++ ((codes "\n") ++ (flat_map fill_text i.fills ++ (flat_map word_text i.words ++ ((codes "  ") ++ ((codes "end") ++ ((codes "\n") ++ rest))))))))))))))) (ap (λ r. Fixed (codes "integer") ∷ Fixed (codes "k") ∷ Fixed (codes ";") ∷ Fixed (codes "initial") ∷ Fixed (codes "begin") ∷ r) (append_assoc (flat_map fill_tokens i.fills) (flat_map word_tokens i.words ++ Fixed (codes "end") ∷ []) ts ∙ ap (λ r. flat_map fill_tokens i.fills ++ r) (append_assoc (flat_map word_tokens i.words) (Fixed (codes "end") ∷ []) ts))) (as3 (codes "  integer k;\n  initial begin\n") (starts_text i) (codes "  end\n") rest ∙ ap (λ r. codes "  integer k;\n  initial begin\n" ++ r) (append_assoc (flat_map fill_text i.fills) (flat_map word_text i.words) (codes "  end\n" ++ rest)))
    (((codes " ") ++ ((codes "k") ++ ((codes ";") ++ ((codes "\n  ") ++ ((codes "initial") ++ ((codes " ") ++ ((codes "begin") ++ ((codes "\n") ++ (flat_map fill_text i.fills ++ (flat_map word_text i.words ++ ((codes "  ") ++ ((codes "end") ++ ((codes "\n") ++ (rest))))))))))))), record { white = (codes "  "); is_white = refl; spelled = refl; apart = refl }, ((codes ";") ++ ((codes "\n  ") ++ ((codes "initial") ++ ((codes " ") ++ ((codes "begin") ++ ((codes "\n") ++ (flat_map fill_text i.fills ++ (flat_map word_text i.words ++ ((codes "  ") ++ ((codes "end") ++ ((codes "\n") ++ (rest))))))))))), record { white = (codes " "); is_white = refl; spelled = refl; apart = refl }, ((codes "\n  ") ++ ((codes "initial") ++ ((codes " ") ++ ((codes "begin") ++ ((codes "\n") ++ (flat_map fill_text i.fills ++ (flat_map word_text i.words ++ ((codes "  ") ++ ((codes "end") ++ ((codes "\n") ++ (rest)))))))))), record { white = []; is_white = refl; spelled = refl; apart = refl }, ((codes " ") ++ ((codes "begin") ++ ((codes "\n") ++ (flat_map fill_text i.fills ++ (flat_map word_text i.words ++ ((codes "  ") ++ ((codes "end") ++ ((codes "\n") ++ (rest)))))))), record { white = (codes "\n  "); is_white = refl; spelled = refl; apart = refl }, ((codes "\n") ++ (flat_map fill_text i.fills ++ (flat_map word_text i.words ++ ((codes "  ") ++ ((codes "end") ++ ((codes "\n") ++ (rest)))))), record { white = (codes " "); is_white = refl; spelled = refl; apart = refl }, spaced (codes "\n") refl (flat_map fill_tokens i.fills ++ (flat_map word_tokens i.words ++ (Fixed (codes "end") ∷ (ts)))) (flat_map fill_text i.fills ++ (flat_map word_text i.words ++ ((codes "  ") ++ ((codes "end") ++ ((codes "\n") ++ (rest)))))) (many_told fill_tokens fill_text fill_told i.fills (flat_map word_tokens i.words ++ (Fixed (codes "end") ∷ (ts))) (flat_map word_text i.words ++ ((codes "  ") ++ ((codes "end") ++ ((codes "\n") ++ (rest))))) (many_told word_tokens word_text word_told i.words (Fixed (codes "end") ∷ (ts)) ((codes "  ") ++ ((codes "end") ++ ((codes "\n") ++ (rest)))) (((codes "\n") ++ (rest), record { white = (codes "  "); is_white = refl; spelled = refl; apart = refl }, spaced (codes "\n") refl (ts) (rest) (h)))))))))))

-- assigns and edges

assign_told : (a : Assign) (ts : List Token) (rest : List ℕ) → Told ts rest → Told (assign_tokens a ++ ts) (assign_text a ++ rest)
assign_told a ts rest h =
    moved (assign_tokens a ++ ts) (Fixed (codes "assign") ∷ (Named a.name ∷ (Fixed (codes "=") ∷ (expr_tokens a.value ++ (Fixed (codes ";") ∷ (ts)))))) (assign_text a ++ rest) ((codes "  ") ++ ((codes "assign") ++ ((codes " ") ++ (a.name ++ ((codes " ") ++ ((codes "=") ++ ((codes " ") ++ (expr_text a.value ++ ((codes ";") ++ ((codes "\n") ++ rest)))))))))) (ap (λ r. Fixed (codes "assign") ∷ Named a.name ∷ Fixed (codes "=") ∷ r) (append_assoc (expr_tokens a.value) (Fixed (codes ";") ∷ []) ts)) (as5 (codes "  assign ") a.name (codes " = ") (expr_text a.value) (codes ";\n") rest)
    (((codes " ") ++ (a.name ++ ((codes " ") ++ ((codes "=") ++ ((codes " ") ++ (expr_text a.value ++ ((codes ";") ++ ((codes "\n") ++ (rest)))))))), record { white = (codes "  "); is_white = refl; spelled = refl; apart = refl }, ((codes " ") ++ ((codes "=") ++ ((codes " ") ++ (expr_text a.value ++ ((codes ";") ++ ((codes "\n") ++ (rest)))))), record { white = (codes " "); is_white = refl; spelled = refl; apart = and_right (begins_word (a.name)) (begins_word ((codes " ") ++ ((codes "=") ++ ((codes " ") ++ (expr_text a.value ++ ((codes ";") ++ ((codes "\n") ++ (rest)))))))) refl }, ((codes " ") ++ (expr_text a.value ++ ((codes ";") ++ ((codes "\n") ++ (rest)))), record { white = (codes " "); is_white = refl; spelled = refl; apart = refl }, after_white a.value (expr_told a.value) (codes " ") refl (Fixed (codes ";") ∷ (ts)) ((codes ";") ++ ((codes "\n") ++ (rest))) refl (((codes "\n") ++ (rest), record { white = []; is_white = refl; spelled = refl; apart = refl }, spaced (codes "\n") refl (ts) (rest) (h)))))))

stmt_told : (s : Stmt) (ts : List Token) (rest : List ℕ) → Told ts rest → Told (stmt_tokens s ++ ts) (stmt_text s ++ rest)
stmt_told (stmt.Store name value) ts rest h =
    moved (stmt_tokens (stmt.Store name value) ++ ts) (Named name ∷ (Fixed (codes "<=") ∷ (expr_tokens value ++ (Fixed (codes ";") ∷ (ts))))) (stmt_text (stmt.Store name value) ++ rest) ((codes "    ") ++ (name ++ ((codes " ") ++ ((codes "<=") ++ ((codes " ") ++ (expr_text value ++ ((codes ";") ++ ((codes "\n") ++ rest)))))))) (ap (λ r. Named name ∷ Fixed (codes "<=") ∷ r) (append_assoc (expr_tokens value) (Fixed (codes ";") ∷ []) ts)) (as5 (codes "    ") name (codes " <= ") (expr_text value) (codes ";\n") rest)
    (((codes " ") ++ ((codes "<=") ++ ((codes " ") ++ (expr_text value ++ ((codes ";") ++ ((codes "\n") ++ (rest)))))), record { white = (codes "    "); is_white = refl; spelled = refl; apart = and_right (begins_word (name)) (begins_word ((codes " ") ++ ((codes "<=") ++ ((codes " ") ++ (expr_text value ++ ((codes ";") ++ ((codes "\n") ++ (rest)))))))) refl }, ((codes " ") ++ (expr_text value ++ ((codes ";") ++ ((codes "\n") ++ (rest)))), record { white = (codes " "); is_white = refl; spelled = refl; apart = refl }, after_white value (expr_told value) (codes " ") refl (Fixed (codes ";") ∷ (ts)) ((codes ";") ++ ((codes "\n") ++ (rest))) refl (((codes "\n") ++ (rest), record { white = []; is_white = refl; spelled = refl; apart = refl }, spaced (codes "\n") refl (ts) (rest) (h))))))
stmt_told (stmt.StoreIf condition name address value) ts rest h =
    moved (stmt_tokens (stmt.StoreIf condition name address value) ++ ts) (Fixed (codes "if") ∷ (Fixed (codes "(") ∷ (expr_tokens condition ++ (Fixed (codes ")") ∷ (Named name ∷ (Fixed (codes "[") ∷ (expr_tokens address ++ (Fixed (codes "]") ∷ (Fixed (codes "<=") ∷ (expr_tokens value ++ (Fixed (codes ";") ∷ (ts)))))))))))) (stmt_text (stmt.StoreIf condition name address value) ++ rest) ((codes "    ") ++ ((codes "if") ++ ((codes " ") ++ ((codes "(") ++ (expr_text condition ++ ((codes ")") ++ ((codes " ") ++ (name ++ ((codes "[") ++ (expr_text address ++ ((codes "]") ++ ((codes " ") ++ ((codes "<=") ++ ((codes " ") ++ (expr_text value ++ ((codes ";") ++ ((codes "\n") ++ rest))))))))))))))))) (ap (λ r. Fixed (codes "if") ∷ Fixed (codes "(") ∷ r) (append_assoc (expr_tokens condition) (Fixed (codes ")") ∷ Named name ∷ Fixed (codes "[") ∷ (expr_tokens address ++ Fixed (codes "]") ∷ Fixed (codes "<=") ∷ (expr_tokens value ++ Fixed (codes ";") ∷ []))) ts ∙ ap (λ r. expr_tokens condition ++ Fixed (codes ")") ∷ Named name ∷ Fixed (codes "[") ∷ r) (append_assoc (expr_tokens address) (Fixed (codes "]") ∷ Fixed (codes "<=") ∷ (expr_tokens value ++ Fixed (codes ";") ∷ [])) ts ∙ ap (λ r. expr_tokens address ++ Fixed (codes "]") ∷ Fixed (codes "<=") ∷ r) (append_assoc (expr_tokens value) (Fixed (codes ";") ∷ []) ts)))) (as9 (codes "    if (") (expr_text condition) (codes ") ") name (codes "[") (expr_text address) (codes "] <= ") (expr_text value) (codes ";\n") rest)
    (((codes " ") ++ ((codes "(") ++ (expr_text condition ++ ((codes ")") ++ ((codes " ") ++ (name ++ ((codes "[") ++ (expr_text address ++ ((codes "]") ++ ((codes " ") ++ ((codes "<=") ++ ((codes " ") ++ (expr_text value ++ ((codes ";") ++ ((codes "\n") ++ (rest))))))))))))))), record { white = (codes "    "); is_white = refl; spelled = refl; apart = refl }, (expr_text condition ++ ((codes ")") ++ ((codes " ") ++ (name ++ ((codes "[") ++ (expr_text address ++ ((codes "]") ++ ((codes " ") ++ ((codes "<=") ++ ((codes " ") ++ (expr_text value ++ ((codes ";") ++ ((codes "\n") ++ (rest))))))))))))), record { white = (codes " "); is_white = refl; spelled = refl; apart = refl }, after_white condition (expr_told condition) [] refl (Fixed (codes ")") ∷ (Named name ∷ (Fixed (codes "[") ∷ (expr_tokens address ++ (Fixed (codes "]") ∷ (Fixed (codes "<=") ∷ (expr_tokens value ++ (Fixed (codes ";") ∷ (ts))))))))) ((codes ")") ++ ((codes " ") ++ (name ++ ((codes "[") ++ (expr_text address ++ ((codes "]") ++ ((codes " ") ++ ((codes "<=") ++ ((codes " ") ++ (expr_text value ++ ((codes ";") ++ ((codes "\n") ++ (rest))))))))))))) refl (((codes " ") ++ (name ++ ((codes "[") ++ (expr_text address ++ ((codes "]") ++ ((codes " ") ++ ((codes "<=") ++ ((codes " ") ++ (expr_text value ++ ((codes ";") ++ ((codes "\n") ++ (rest))))))))))), record { white = []; is_white = refl; spelled = refl; apart = refl }, ((codes "[") ++ (expr_text address ++ ((codes "]") ++ ((codes " ") ++ ((codes "<=") ++ ((codes " ") ++ (expr_text value ++ ((codes ";") ++ ((codes "\n") ++ (rest))))))))), record { white = (codes " "); is_white = refl; spelled = refl; apart = and_right (begins_word (name)) (begins_word ((codes "[") ++ (expr_text address ++ ((codes "]") ++ ((codes " ") ++ ((codes "<=") ++ ((codes " ") ++ (expr_text value ++ ((codes ";") ++ ((codes "\n") ++ (rest))))))))))) refl }, (expr_text address ++ ((codes "]") ++ ((codes " ") ++ ((codes "<=") ++ ((codes " ") ++ (expr_text value ++ ((codes ";") ++ ((codes "\n") ++ (rest)))))))), record { white = []; is_white = refl; spelled = refl; apart = refl }, after_white address (expr_told address) [] refl (Fixed (codes "]") ∷ (Fixed (codes "<=") ∷ (expr_tokens value ++ (Fixed (codes ";") ∷ (ts))))) ((codes "]") ++ ((codes " ") ++ ((codes "<=") ++ ((codes " ") ++ (expr_text value ++ ((codes ";") ++ ((codes "\n") ++ (rest)))))))) refl (((codes " ") ++ ((codes "<=") ++ ((codes " ") ++ (expr_text value ++ ((codes ";") ++ ((codes "\n") ++ (rest)))))), record { white = []; is_white = refl; spelled = refl; apart = refl }, ((codes " ") ++ (expr_text value ++ ((codes ";") ++ ((codes "\n") ++ (rest)))), record { white = (codes " "); is_white = refl; spelled = refl; apart = refl }, after_white value (expr_told value) (codes " ") refl (Fixed (codes ";") ∷ (ts)) ((codes ";") ++ ((codes "\n") ++ (rest))) refl (((codes "\n") ++ (rest), record { white = []; is_white = refl; spelled = refl; apart = refl }, spaced (codes "\n") refl (ts) (rest) (h)))))))))))))

edge_parts : (k : EdgeKind) (ss : List Stmt) (ts : List Token) (rest : List ℕ) → Told ts rest → Told ((Fixed (codes "always") ∷ Fixed (codes "@") ∷ Fixed (codes "(") ∷ edge_token k ∷ Named (codes "clk") ∷ Fixed (codes ")") ∷ Fixed (codes "begin") ∷ (flat_map stmt_tokens ss ++ Fixed (codes "end") ∷ [])) ++ ts) ((always_text k ++ flat_map stmt_text ss ++ codes "  end\n") ++ rest)
edge_parts Rising ss ts rest h =
    moved ((Fixed (codes "always") ∷ Fixed (codes "@") ∷ Fixed (codes "(") ∷ edge_token Rising ∷ Named (codes "clk") ∷ Fixed (codes ")") ∷ Fixed (codes "begin") ∷ (flat_map stmt_tokens ss ++ Fixed (codes "end") ∷ [])) ++ ts) (Fixed (codes "always") ∷ (Fixed (codes "@") ∷ (Fixed (codes "(") ∷ (Fixed (codes "posedge") ∷ (Named (codes "clk") ∷ (Fixed (codes ")") ∷ (Fixed (codes "begin") ∷ (flat_map stmt_tokens ss ++ (Fixed (codes "end") ∷ (ts)))))))))) ((always_text Rising ++ flat_map stmt_text ss ++ codes "  end\n") ++ rest) ((codes "  ") ++ ((codes "always") ++ ((codes " ") ++ ((codes "@") ++ ((codes "(") ++ ((codes "posedge") ++ ((codes " ") ++ (codes "clk" ++ ((codes ")") ++ ((codes " ") ++ ((codes "begin") ++ ((codes "\n") ++ (flat_map stmt_text ss ++ ((codes "  ") ++ ((codes "end") ++ ((codes "\n") ++ rest)))))))))))))))) (ap (λ r. Fixed (codes "always") ∷ Fixed (codes "@") ∷ Fixed (codes "(") ∷ edge_token Rising ∷ Named (codes "clk") ∷ Fixed (codes ")") ∷ Fixed (codes "begin") ∷ r) (append_assoc (flat_map stmt_tokens ss) (Fixed (codes "end") ∷ []) ts)) (as3 (always_text Rising) (flat_map stmt_text ss) (codes "  end\n") rest)
    (((codes " ") ++ ((codes "@") ++ ((codes "(") ++ ((codes "posedge") ++ ((codes " ") ++ (codes "clk" ++ ((codes ")") ++ ((codes " ") ++ ((codes "begin") ++ ((codes "\n") ++ (flat_map stmt_text ss ++ ((codes "  ") ++ ((codes "end") ++ ((codes "\n") ++ (rest)))))))))))))), record { white = (codes "  "); is_white = refl; spelled = refl; apart = refl }, ((codes "(") ++ ((codes "posedge") ++ ((codes " ") ++ (codes "clk" ++ ((codes ")") ++ ((codes " ") ++ ((codes "begin") ++ ((codes "\n") ++ (flat_map stmt_text ss ++ ((codes "  ") ++ ((codes "end") ++ ((codes "\n") ++ (rest)))))))))))), record { white = (codes " "); is_white = refl; spelled = refl; apart = refl }, ((codes "posedge") ++ ((codes " ") ++ (codes "clk" ++ ((codes ")") ++ ((codes " ") ++ ((codes "begin") ++ ((codes "\n") ++ (flat_map stmt_text ss ++ ((codes "  ") ++ ((codes "end") ++ ((codes "\n") ++ (rest))))))))))), record { white = []; is_white = refl; spelled = refl; apart = refl }, ((codes " ") ++ (codes "clk" ++ ((codes ")") ++ ((codes " ") ++ ((codes "begin") ++ ((codes "\n") ++ (flat_map stmt_text ss ++ ((codes "  ") ++ ((codes "end") ++ ((codes "\n") ++ (rest)))))))))), record { white = []; is_white = refl; spelled = refl; apart = refl }, ((codes ")") ++ ((codes " ") ++ ((codes "begin") ++ ((codes "\n") ++ (flat_map stmt_text ss ++ ((codes "  ") ++ ((codes "end") ++ ((codes "\n") ++ (rest)))))))), record { white = (codes " "); is_white = refl; spelled = refl; apart = and_right (begins_word (codes "clk")) (begins_word ((codes ")") ++ ((codes " ") ++ ((codes "begin") ++ ((codes "\n") ++ (flat_map stmt_text ss ++ ((codes "  ") ++ ((codes "end") ++ ((codes "\n") ++ (rest)))))))))) refl }, ((codes " ") ++ ((codes "begin") ++ ((codes "\n") ++ (flat_map stmt_text ss ++ ((codes "  ") ++ ((codes "end") ++ ((codes "\n") ++ (rest))))))), record { white = []; is_white = refl; spelled = refl; apart = refl }, ((codes "\n") ++ (flat_map stmt_text ss ++ ((codes "  ") ++ ((codes "end") ++ ((codes "\n") ++ (rest))))), record { white = (codes " "); is_white = refl; spelled = refl; apart = refl }, spaced (codes "\n") refl (flat_map stmt_tokens ss ++ (Fixed (codes "end") ∷ (ts))) (flat_map stmt_text ss ++ ((codes "  ") ++ ((codes "end") ++ ((codes "\n") ++ (rest))))) (many_told stmt_tokens stmt_text stmt_told ss (Fixed (codes "end") ∷ (ts)) ((codes "  ") ++ ((codes "end") ++ ((codes "\n") ++ (rest)))) (((codes "\n") ++ (rest), record { white = (codes "  "); is_white = refl; spelled = refl; apart = refl }, spaced (codes "\n") refl (ts) (rest) (h))))))))))))
edge_parts Falling ss ts rest h =
    moved ((Fixed (codes "always") ∷ Fixed (codes "@") ∷ Fixed (codes "(") ∷ edge_token Falling ∷ Named (codes "clk") ∷ Fixed (codes ")") ∷ Fixed (codes "begin") ∷ (flat_map stmt_tokens ss ++ Fixed (codes "end") ∷ [])) ++ ts) (Fixed (codes "always") ∷ (Fixed (codes "@") ∷ (Fixed (codes "(") ∷ (Fixed (codes "negedge") ∷ (Named (codes "clk") ∷ (Fixed (codes ")") ∷ (Fixed (codes "begin") ∷ (flat_map stmt_tokens ss ++ (Fixed (codes "end") ∷ (ts)))))))))) ((always_text Falling ++ flat_map stmt_text ss ++ codes "  end\n") ++ rest) ((codes "  ") ++ ((codes "always") ++ ((codes " ") ++ ((codes "@") ++ ((codes "(") ++ ((codes "negedge") ++ ((codes " ") ++ (codes "clk" ++ ((codes ")") ++ ((codes " ") ++ ((codes "begin") ++ ((codes "\n") ++ (flat_map stmt_text ss ++ ((codes "  ") ++ ((codes "end") ++ ((codes "\n") ++ rest)))))))))))))))) (ap (λ r. Fixed (codes "always") ∷ Fixed (codes "@") ∷ Fixed (codes "(") ∷ edge_token Falling ∷ Named (codes "clk") ∷ Fixed (codes ")") ∷ Fixed (codes "begin") ∷ r) (append_assoc (flat_map stmt_tokens ss) (Fixed (codes "end") ∷ []) ts)) (as3 (always_text Falling) (flat_map stmt_text ss) (codes "  end\n") rest)
    (((codes " ") ++ ((codes "@") ++ ((codes "(") ++ ((codes "negedge") ++ ((codes " ") ++ (codes "clk" ++ ((codes ")") ++ ((codes " ") ++ ((codes "begin") ++ ((codes "\n") ++ (flat_map stmt_text ss ++ ((codes "  ") ++ ((codes "end") ++ ((codes "\n") ++ (rest)))))))))))))), record { white = (codes "  "); is_white = refl; spelled = refl; apart = refl }, ((codes "(") ++ ((codes "negedge") ++ ((codes " ") ++ (codes "clk" ++ ((codes ")") ++ ((codes " ") ++ ((codes "begin") ++ ((codes "\n") ++ (flat_map stmt_text ss ++ ((codes "  ") ++ ((codes "end") ++ ((codes "\n") ++ (rest)))))))))))), record { white = (codes " "); is_white = refl; spelled = refl; apart = refl }, ((codes "negedge") ++ ((codes " ") ++ (codes "clk" ++ ((codes ")") ++ ((codes " ") ++ ((codes "begin") ++ ((codes "\n") ++ (flat_map stmt_text ss ++ ((codes "  ") ++ ((codes "end") ++ ((codes "\n") ++ (rest))))))))))), record { white = []; is_white = refl; spelled = refl; apart = refl }, ((codes " ") ++ (codes "clk" ++ ((codes ")") ++ ((codes " ") ++ ((codes "begin") ++ ((codes "\n") ++ (flat_map stmt_text ss ++ ((codes "  ") ++ ((codes "end") ++ ((codes "\n") ++ (rest)))))))))), record { white = []; is_white = refl; spelled = refl; apart = refl }, ((codes ")") ++ ((codes " ") ++ ((codes "begin") ++ ((codes "\n") ++ (flat_map stmt_text ss ++ ((codes "  ") ++ ((codes "end") ++ ((codes "\n") ++ (rest)))))))), record { white = (codes " "); is_white = refl; spelled = refl; apart = and_right (begins_word (codes "clk")) (begins_word ((codes ")") ++ ((codes " ") ++ ((codes "begin") ++ ((codes "\n") ++ (flat_map stmt_text ss ++ ((codes "  ") ++ ((codes "end") ++ ((codes "\n") ++ (rest)))))))))) refl }, ((codes " ") ++ ((codes "begin") ++ ((codes "\n") ++ (flat_map stmt_text ss ++ ((codes "  ") ++ ((codes "end") ++ ((codes "\n") ++ (rest))))))), record { white = []; is_white = refl; spelled = refl; apart = refl }, ((codes "\n") ++ (flat_map stmt_text ss ++ ((codes "  ") ++ ((codes "end") ++ ((codes "\n") ++ (rest))))), record { white = (codes " "); is_white = refl; spelled = refl; apart = refl }, spaced (codes "\n") refl (flat_map stmt_tokens ss ++ (Fixed (codes "end") ∷ (ts))) (flat_map stmt_text ss ++ ((codes "  ") ++ ((codes "end") ++ ((codes "\n") ++ (rest))))) (many_told stmt_tokens stmt_text stmt_told ss (Fixed (codes "end") ∷ (ts)) ((codes "  ") ++ ((codes "end") ++ ((codes "\n") ++ (rest)))) (((codes "\n") ++ (rest), record { white = (codes "  "); is_white = refl; spelled = refl; apart = refl }, spaced (codes "\n") refl (ts) (rest) (h))))))))))))

edge_told : (e : Option Edge) (ts : List Token) (rest : List ℕ) → Told ts rest → Told (edge_tokens e ++ ts) (edge_text e ++ rest)
edge_told None ts rest h = h
edge_told (Some e) ts rest h = edge_parts e.kind e.stmts ts rest h

-- whole modules

abbrev last_tokens : Module → List Token
last_tokens m = flat_map decl_tokens m.decls ++ (init_tokens m.init ++ (flat_map assign_tokens m.assigns ++ (edge_tokens m.edge ++ Fixed (codes "endmodule") ∷ [])))

abbrev last_text : Module → List ℕ
last_text m = flat_map decl_text m.decls ++ (init_text m.init ++ (flat_map assign_text m.assigns ++ (edge_text m.edge ++ codes "endmodule\n")))

last_told : (m : Module) → Told (last_tokens m) (last_text m)
last_told m =
    let end : List Token = Fixed (codes "endmodule") ∷ [] in
    let text : List ℕ = codes "endmodule\n" in
    let fourth : Told end text = (codes "\n", record { white = []; is_white = refl; spelled = refl; apart = refl }, refl) in
    let third = edge_told m.edge end text fourth in
    let second = many_told assign_tokens assign_text assign_told m.assigns (edge_tokens m.edge ++ end) (edge_text m.edge ++ text) third in
    let first = init_told m.init (flat_map assign_tokens m.assigns ++ (edge_tokens m.edge ++ end)) (flat_map assign_text m.assigns ++ (edge_text m.edge ++ text)) second in
    many_told decl_tokens decl_text decl_told m.decls (init_tokens m.init ++ (flat_map assign_tokens m.assigns ++ (edge_tokens m.edge ++ end))) (init_text m.init ++ (flat_map assign_text m.assigns ++ (edge_text m.edge ++ text))) first

pub module_told : (m : Module) → Told (module_tokens m) (module_text m)
module_told m =
    subst (Told (module_tokens m)) (sym (as5 (head_text m) (flat_map decl_text m.decls) (init_text m.init) (flat_map assign_text m.assigns) (edge_text m.edge) (codes "endmodule\n") ∙ as5 (codes "module ") m.name (codes "(\n") (ports_text m.ports) (codes ");\n") (last_text m)))
    (((codes " ") ++ (m.name ++ ((codes "(") ++ ((codes "\n") ++ (ports_text m.ports ++ ((codes ")") ++ ((codes ";") ++ ((codes "\n") ++ (last_text m)))))))), record { white = []; is_white = refl; spelled = refl; apart = refl }, ((codes "(") ++ ((codes "\n") ++ (ports_text m.ports ++ ((codes ")") ++ ((codes ";") ++ ((codes "\n") ++ (last_text m)))))), record { white = (codes " "); is_white = refl; spelled = refl; apart = and_right (begins_word (m.name)) (begins_word ((codes "(") ++ ((codes "\n") ++ (ports_text m.ports ++ ((codes ")") ++ ((codes ";") ++ ((codes "\n") ++ (last_text m)))))))) refl }, ((codes "\n") ++ (ports_text m.ports ++ ((codes ")") ++ ((codes ";") ++ ((codes "\n") ++ (last_text m))))), record { white = []; is_white = refl; spelled = refl; apart = refl }, spaced (codes "\n") refl (ports_tokens m.ports ++ (Fixed (codes ")") ∷ (Fixed (codes ";") ∷ (last_tokens m)))) (ports_text m.ports ++ ((codes ")") ++ ((codes ";") ++ ((codes "\n") ++ (last_text m))))) (ports_told m.ports (Fixed (codes ")") ∷ (Fixed (codes ";") ∷ (last_tokens m))) ((codes ")") ++ ((codes ";") ++ ((codes "\n") ++ (last_text m)))) (((codes ";") ++ ((codes "\n") ++ (last_text m)), record { white = []; is_white = refl; spelled = refl; apart = refl }, ((codes "\n") ++ (last_text m), record { white = []; is_white = refl; spelled = refl; apart = refl }, spaced (codes "\n") refl (last_tokens m) (last_text m) (last_told m)))))))))

pub printed : (m : Module) → IsTree m → IsModuleText (module_text m) m
printed m tree = record { tree = tree; spelled = module_told m }
