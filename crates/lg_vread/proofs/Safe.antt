-- No two signs of a module's tokens run together, and each reserved word and sign is one token.
use Rattle.std.proofs.Common.{◌≡◌, ℕ, zero, suc, ◌≤◌, Bool, true, false, ◌&&◌, List, [], ◌∷◌, ◌++◌, map, Option, Some, None, refl, sym, ap, ◌∙◌, append_assoc, subst, arith}
use Rattle.std.specs.Prelude.{codes, not}
use Rattle.std.specs.List.{flat_map}
use Rattle.lg_vtree.specs.declared.module.Direction.{Direction}
use Rattle.lg_vtree.specs.declared.module.Direction.TheVariants.{Input, Output}
use Rattle.lg_vtree.specs.declared.module.Port.{Port}
use Rattle.lg_vtree.specs.declared.module.Decl.{Decl}
use Rattle.lg_vtree.specs.declared.module.Decl.TheVariants as decl
use Rattle.lg_vtree.specs.declared.module.Init.{Init}
use Rattle.lg_vtree.specs.declared.module.EdgeKind.{EdgeKind}
use Rattle.lg_vtree.specs.declared.module.EdgeKind.TheVariants.{Rising, Falling}
use Rattle.lg_vtree.specs.declared.module.Stmt.{Stmt}
use Rattle.lg_vtree.specs.declared.module.Stmt.TheVariants as stmt
use Rattle.lg_vtree.specs.declared.module.Edge.{Edge}
use Rattle.lg_vtree.specs.declared.module.Module.{Module}
use Rattle.lg_vtree.specs.declared.expr.Operator.{Operator}
use Rattle.lg_vtree.specs.declared.expr.Operator.TheVariants as operator
use Rattle.lg_vtree.specs.declared.expr.Expr.{Expr, roll-Expr, out-Expr, roll-out-Expr}
use Rattle.lg_vtree.specs.declared.expr.Expr.TheOpen.{Expr-F}
use Rattle.lg_vtree.specs.declared.expr.Expr.TheVariants.{rolls-Const, rolls-Whole, rolls-Bit, rolls-Part, rolls-Item, rolls-Join, rolls-Not, rolls-Binary, rolls-Choice}
use Rattle.lg_vtree.specs.Printed.{operator_text}
use Rattle.lg_vtree.specs.Grammar.{Token, Fixed, Named, range_tokens, expr_tokens, direction_token, port_tokens, ports_tokens, decl_tokens, fill_tokens, word_tokens, init_tokens, assign_tokens, edge_token, stmt_tokens, edge_tokens, module_tokens}
use Rattle.lg_vtree.specs.Depth.{greatest, depth}
use Rattle.lg_vread.specs.Lexing.{is_angle, begins, is_fixed}
use Rattle.lg_vtree.proofs.Unrolled.{tokens-roll, tokens-Const, tokens-Whole, tokens-Bit, tokens-Part, tokens-Item, tokens-Not, tokens-Binary, tokens-Choice, depth-Item, depth-Join, depth-Not, depth-Binary, depth-Choice, others_tokens, join_spelled, some_depth}

abbrev pub is_plain : Token → Bool
is_plain (Fixed word) = is_fixed word
is_plain _ = true

abbrev pub angles : Token → Bool
angles (Fixed word) = begins is_angle word
angles _ = false

abbrev pub first_angles : List Token → Bool
first_angles [] = false
first_angles (t ∷ ts) = angles t

-- each reserved word and sign is one token, and no `<`, `=` or `>` stands before another
abbrev pub is_safe : List Token → Bool
is_safe [] = true
is_safe (t ∷ ts) = is_plain t && (not (angles t && first_angles ts) && is_safe ts)

behind_angle : (ts : List Token) → first_angles ts ≡ false → is_safe ts ≡ true → (not (first_angles ts) && is_safe ts) ≡ true
behind_angle ts f e = ap (λ b. not b && is_safe ts) f ∙ e

-- an expression does not begin with such a sign

starts-form : (f : Expr-F Expr) (rest : List Token) → first_angles (expr_tokens (roll-Expr f) ++ rest) ≡ false
starts-form (Expr-F.Const c) rest = ap (λ t. first_angles (t ++ rest)) (tokens-roll (Expr-F.Const c) (roll-Expr (Expr-F.Const c)) refl)
starts-form (Expr-F.Whole name) rest = ap (λ t. first_angles (t ++ rest)) (tokens-roll (Expr-F.Whole name) (roll-Expr (Expr-F.Whole name)) refl)
starts-form (Expr-F.Bit name index) rest = ap (λ t. first_angles (t ++ rest)) (tokens-roll (Expr-F.Bit name index) (roll-Expr (Expr-F.Bit name index)) refl)
starts-form (Expr-F.Part name high low) rest = ap (λ t. first_angles (t ++ rest)) (tokens-roll (Expr-F.Part name high low) (roll-Expr (Expr-F.Part name high low)) refl)
starts-form (Expr-F.Item name e) rest = ap (λ t. first_angles (t ++ rest)) (tokens-roll (Expr-F.Item name e) (roll-Expr (Expr-F.Item name e)) refl)
starts-form (Expr-F.Join a b more) rest = ap (λ t. first_angles (t ++ rest)) (tokens-roll (Expr-F.Join a b more) (roll-Expr (Expr-F.Join a b more)) refl)
starts-form (Expr-F.Not e) rest = ap (λ t. first_angles (t ++ rest)) (tokens-roll (Expr-F.Not e) (roll-Expr (Expr-F.Not e)) refl)
starts-form (Expr-F.Binary a op b) rest = ap (λ t. first_angles (t ++ rest)) (tokens-roll (Expr-F.Binary a op b) (roll-Expr (Expr-F.Binary a op b)) refl)
starts-form (Expr-F.Choice c a b) rest = ap (λ t. first_angles (t ++ rest)) (tokens-roll (Expr-F.Choice c a b) (roll-Expr (Expr-F.Choice c a b)) refl)

starts_plain : (e : Expr) (rest : List Token) → first_angles (expr_tokens e ++ rest) ≡ false
starts_plain e rest = subst (λ x. first_angles (expr_tokens x ++ rest) ≡ false) (roll-out-Expr e) (starts-form (out-Expr e) rest)

operator_safe : (op : Operator) (ts : List Token) → first_angles ts ≡ false → is_safe ts ≡ true → is_safe (Fixed (operator_text op) ∷ ts) ≡ true
operator_safe operator.And ts f e = e
operator_safe operator.Or ts f e = e
operator_safe operator.Xor ts f e = e
operator_safe operator.Add ts f e = e
operator_safe operator.Subtract ts f e = e
operator_safe operator.Multiply ts f e = e
operator_safe operator.Divide ts f e = e
operator_safe operator.Remainder ts f e = e
operator_safe operator.Equal ts f e = behind_angle ts f e
operator_safe operator.Less ts f e = behind_angle ts f e
operator_safe operator.ShiftLeft ts f e = behind_angle ts f e
operator_safe operator.ShiftRight ts f e = behind_angle ts f e

-- safe before whatever is safe
abbrev pub KeepsSafe : List Token → Type 0
KeepsSafe ts = (rest : List Token) → is_safe rest ≡ true → is_safe (ts ++ rest) ≡ true

many_safe : {A : Type 0} (tokens : A → List Token) → ((x : A) → KeepsSafe (tokens x)) → (xs : List A) → KeepsSafe (flat_map tokens xs)
many_safe tokens each [] rest e = e
many_safe tokens each (x ∷ xs) rest e = ap is_safe (append_assoc (tokens x) (flat_map tokens xs) rest) ∙ each x (flat_map tokens xs ++ rest) (many_safe tokens each xs rest e)

module _ (n : ℕ) (inner : (e : Expr) → depth e ≤ n → KeepsSafe (expr_tokens e)) where
  others_safe : (es : List Expr) → greatest (map depth es) ≤ n → KeepsSafe (others_tokens es)
  others_safe [] deep rest e = e
  others_safe (x ∷ es) deep rest e =
      ap is_safe (append_assoc (Fixed (codes ",") ∷ expr_tokens x) (others_tokens es) rest) ∙ inner x (omega arith) (others_tokens es ++ rest) (others_safe es (omega arith) rest e)

  abbrev Safely : Expr → Type 0
  Safely e = depth e ≤ suc n → KeepsSafe (expr_tokens e)

  form_safe : (f : Expr-F Expr) → Safely (roll-Expr f)
  form_safe (Expr-F.Const c) = subst Safely (sym (rolls-Const c)) (λ deep rest e. ap (λ t. is_safe (t ++ rest)) (tokens-Const c) ∙ e)
  form_safe (Expr-F.Whole name) = subst Safely (sym (rolls-Whole name)) (λ deep rest e. ap (λ t. is_safe (t ++ rest)) (tokens-Whole name) ∙ e)
  form_safe (Expr-F.Bit name index) = subst Safely (sym (rolls-Bit name index)) (λ deep rest e. ap (λ t. is_safe (t ++ rest)) (tokens-Bit name index) ∙ e)
  form_safe (Expr-F.Part name high low) = subst Safely (sym (rolls-Part name high low)) (λ deep rest e. ap (λ t. is_safe (t ++ rest)) (tokens-Part name high low) ∙ e)
  form_safe (Expr-F.Item name x) = subst Safely (sym (rolls-Item name x)) (λ deep rest e.
      ap (λ t. is_safe (t ++ rest)) (tokens-Item name x) ∙ ap is_safe (append_assoc (expr_tokens x) (Fixed (codes "]") ∷ []) rest) ∙ inner x (omega (arith, deep, depth-Item name x)) (Fixed (codes "]") ∷ rest) e)
  form_safe (Expr-F.Join a b more) = subst Safely (sym (rolls-Join a b more)) (λ deep rest e.
      let d = depth-Join a b more in
      let last : List Token = others_tokens more ++ Fixed (codes "}") ∷ rest in
      ap is_safe (join_spelled a b more rest)
      ∙ inner a (omega (arith, deep, d)) (Fixed (codes ",") ∷ (expr_tokens b ++ last)) (inner b (omega (arith, deep, d)) last (others_safe more (omega (arith, deep, d)) (Fixed (codes "}") ∷ rest) e)))
  form_safe (Expr-F.Not x) = subst Safely (sym (rolls-Not x)) (λ deep rest e.
      ap (λ t. is_safe (t ++ rest)) (tokens-Not x) ∙ ap is_safe (append_assoc (expr_tokens x) (Fixed (codes ")") ∷ []) rest) ∙ inner x (omega (arith, deep, depth-Not x)) (Fixed (codes ")") ∷ rest) e)
  form_safe (Expr-F.Binary a op b) = subst Safely (sym (rolls-Binary a op b)) (λ deep rest e.
      let d = depth-Binary a op b in
      let right : List Token = expr_tokens b ++ Fixed (codes ")") ∷ rest in
      ap (λ t. is_safe (t ++ rest)) (tokens-Binary a op b)
      ∙ ap is_safe (append_assoc (expr_tokens a) (Fixed (operator_text op) ∷ (expr_tokens b ++ Fixed (codes ")") ∷ [])) rest ∙ ap (λ r. expr_tokens a ++ Fixed (operator_text op) ∷ r) (append_assoc (expr_tokens b) (Fixed (codes ")") ∷ []) rest))
      ∙ inner a (omega (arith, deep, d)) (Fixed (operator_text op) ∷ right) (operator_safe op right (starts_plain b (Fixed (codes ")") ∷ rest)) (inner b (omega (arith, deep, d)) (Fixed (codes ")") ∷ rest) e)))
  form_safe (Expr-F.Choice c a b) = subst Safely (sym (rolls-Choice c a b)) (λ deep rest e.
      let d = depth-Choice c a b in
      let last : List Token = expr_tokens b ++ Fixed (codes ")") ∷ rest in
      ap (λ t. is_safe (t ++ rest)) (tokens-Choice c a b)
      ∙ ap is_safe (append_assoc (expr_tokens c) (Fixed (codes "?") ∷ (expr_tokens a ++ Fixed (codes ":") ∷ (expr_tokens b ++ Fixed (codes ")") ∷ []))) rest
      ∙ ap (λ r. expr_tokens c ++ Fixed (codes "?") ∷ r) (append_assoc (expr_tokens a) (Fixed (codes ":") ∷ (expr_tokens b ++ Fixed (codes ")") ∷ [])) rest ∙ ap (λ r. expr_tokens a ++ Fixed (codes ":") ∷ r) (append_assoc (expr_tokens b) (Fixed (codes ")") ∷ []) rest)))
      ∙ inner c (omega (arith, deep, d)) (Fixed (codes "?") ∷ (expr_tokens a ++ Fixed (codes ":") ∷ last)) (inner a (omega (arith, deep, d)) (Fixed (codes ":") ∷ last) (inner b (omega (arith, deep, d)) (Fixed (codes ")") ∷ rest) e)))

deep_safe : (n : ℕ) (e : Expr) → depth e ≤ n → KeepsSafe (expr_tokens e)
deep_safe zero e deep rest h = absurd (some_depth e deep)
deep_safe (suc n) e deep rest h = subst (Safely n (deep_safe n)) (roll-out-Expr e) (form_safe n (deep_safe n) (out-Expr e)) deep rest h

expr_safe : (e : Expr) → KeepsSafe (expr_tokens e)
expr_safe e = deep_safe (depth e) e (omega arith)

port_safe : (p : Port) → KeepsSafe (port_tokens p)
port_safe p rest e = by_parts p.direction p.range
  where
    by_parts : (d : Direction) (range : Option ℕ) → is_safe ((direction_token d ∷ Fixed (codes "wire") ∷ (range_tokens range ++ Named p.name ∷ [])) ++ rest) ≡ true
    by_parts Input None = e
    by_parts Input (Some high) = e
    by_parts Output None = e
    by_parts Output (Some high) = e

ports_safe : (ps : List Port) → KeepsSafe (ports_tokens ps)
ports_safe [] rest e = e
ports_safe (p ∷ ps) rest e =
    ap is_safe (append_assoc (port_tokens p) (flat_map (λ (q : Port). Fixed (codes ",") ∷ port_tokens q) ps) rest)
    ∙ port_safe p (flat_map (λ (q : Port). Fixed (codes ",") ∷ port_tokens q) ps ++ rest) (many_safe (λ (q : Port). Fixed (codes ",") ∷ port_tokens q) (λ q r h. port_safe q r h) ps rest e)

decl_safe : (d : Decl) → KeepsSafe (decl_tokens d)
decl_safe (decl.Wire None name) rest e = e
decl_safe (decl.Wire (Some high) name) rest e = e
decl_safe (decl.Reg None name start) rest e = e
decl_safe (decl.Reg (Some high) name start) rest e = e
decl_safe (decl.Memory None name last) rest e = e
decl_safe (decl.Memory (Some high) name last) rest e = e

init_safe : (i : Option Init) → KeepsSafe (init_tokens i)
init_safe None rest e = e
init_safe (Some i) rest e =
    ap is_safe (append_assoc (flat_map fill_tokens i.fills) (flat_map word_tokens i.words ++ Fixed (codes "end") ∷ []) rest ∙ ap (λ r. flat_map fill_tokens i.fills ++ r) (append_assoc (flat_map word_tokens i.words) (Fixed (codes "end") ∷ []) rest))
    ∙ many_safe fill_tokens (λ f r h. h) i.fills (flat_map word_tokens i.words ++ Fixed (codes "end") ∷ rest) (many_safe word_tokens (λ w r h. h) i.words (Fixed (codes "end") ∷ rest) e)

-- an expression behind `=` or `<=`, up to its end
value_safe : (v : Expr) (rest : List Token) → is_safe rest ≡ true → (not (first_angles ((expr_tokens v ++ Fixed (codes ";") ∷ []) ++ rest)) && is_safe ((expr_tokens v ++ Fixed (codes ";") ∷ []) ++ rest)) ≡ true
value_safe v rest e =
    ap (λ r. not (first_angles r) && is_safe r) (append_assoc (expr_tokens v) (Fixed (codes ";") ∷ []) rest)
    ∙ behind_angle (expr_tokens v ++ Fixed (codes ";") ∷ rest) (starts_plain v (Fixed (codes ";") ∷ rest)) (expr_safe v (Fixed (codes ";") ∷ rest) e)

stmt_safe : (s : Stmt) → KeepsSafe (stmt_tokens s)
stmt_safe (stmt.Store name value) rest e = value_safe value rest e
stmt_safe (stmt.StoreIf condition name address value) rest e =
    let last : List Token = expr_tokens value ++ Fixed (codes ";") ∷ [] in
    let middle : List Token = expr_tokens address ++ Fixed (codes "]") ∷ Fixed (codes "<=") ∷ last in
    ap is_safe (append_assoc (expr_tokens condition) (Fixed (codes ")") ∷ Named name ∷ Fixed (codes "[") ∷ middle) rest)
    ∙ expr_safe condition (Fixed (codes ")") ∷ Named name ∷ Fixed (codes "[") ∷ (middle ++ rest)) (
    ap is_safe (append_assoc (expr_tokens address) (Fixed (codes "]") ∷ Fixed (codes "<=") ∷ last) rest)
    ∙ expr_safe address (Fixed (codes "]") ∷ Fixed (codes "<=") ∷ (last ++ rest)) (value_safe value rest e)
    )

edge_safe : (e : Option Edge) → KeepsSafe (edge_tokens e)
edge_safe None rest h = h
edge_safe (Some e) rest h = by_kind e.kind (ap is_safe (append_assoc (flat_map stmt_tokens e.stmts) (Fixed (codes "end") ∷ []) rest) ∙ many_safe stmt_tokens stmt_safe e.stmts (Fixed (codes "end") ∷ rest) h)
  where
    by_kind : (k : EdgeKind) → is_safe ((flat_map stmt_tokens e.stmts ++ Fixed (codes "end") ∷ []) ++ rest) ≡ true
        → is_safe (Fixed (codes "always") ∷ Fixed (codes "@") ∷ Fixed (codes "(") ∷ edge_token k ∷ Named (codes "clk") ∷ Fixed (codes ")") ∷ Fixed (codes "begin") ∷ ((flat_map stmt_tokens e.stmts ++ Fixed (codes "end") ∷ []) ++ rest)) ≡ true
    by_kind Rising h = h
    by_kind Falling h = h

pub module_safe : (m : Module) → is_safe (module_tokens m) ≡ true
module_safe m =
    let end : List Token = Fixed (codes "endmodule") ∷ [] in
    let fourth = edge_safe m.edge end refl in
    let third = many_safe assign_tokens (λ a r h. value_safe a.value r h) m.assigns (edge_tokens m.edge ++ end) fourth in
    let second = init_safe m.init (flat_map assign_tokens m.assigns ++ (edge_tokens m.edge ++ end)) third in
    let first = many_safe decl_tokens decl_safe m.decls (init_tokens m.init ++ (flat_map assign_tokens m.assigns ++ (edge_tokens m.edge ++ end))) second in
    ports_safe m.ports (Fixed (codes ")") ∷ Fixed (codes ";") ∷ (flat_map decl_tokens m.decls ++ (init_tokens m.init ++ (flat_map assign_tokens m.assigns ++ (edge_tokens m.edge ++ end))))) first
