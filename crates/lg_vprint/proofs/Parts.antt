-- The tokens of a part of a tree are tokens of the subset where its names, its numbers, its range and the parts inside it are.
use Rattle.std.proofs.Common.{◌≡◌, ℕ, true, List, [], ◌∷◌, ◌++◌, ◌&&◌, Option, Some, None, refl, sym, ap, ◌∙◌}
use Rattle.std.specs.Prelude.{codes}
use Rattle.std.specs.List.{flat_map, list_all, AllByRecursion}
use Rattle.std.proofs.lemmas.Bool.{and_parts, and_from}
use Rattle.std.proofs.lemmas.List.{append-nil}
use Rattle.std.proofs.lemmas.List.Folds.{list_all-append}
use Rattle.lg_vtree.specs.declared.module.Direction.{Direction}
use Rattle.lg_vtree.specs.declared.module.Direction.TheVariants.{Input, Output}
use Rattle.lg_vtree.specs.declared.module.Port.{Port}
use Rattle.lg_vtree.specs.declared.module.Init.{Init}
use Rattle.lg_vtree.specs.declared.module.Assign.{Assign}
use Rattle.lg_vtree.specs.declared.module.EdgeKind.{EdgeKind}
use Rattle.lg_vtree.specs.declared.module.EdgeKind.TheVariants.{Rising, Falling}
use Rattle.lg_vtree.specs.declared.module.Stmt.TheVariants as stmt
use Rattle.lg_vtree.specs.declared.module.Edge.{Edge}
use Rattle.lg_vtree.specs.declared.module.Module.{Module}
use Rattle.lg_vtree.specs.declared.expr.Constant.{Constant}
use Rattle.lg_vtree.specs.declared.expr.Operator.{Operator}
use Rattle.lg_vtree.specs.declared.expr.Expr.{Expr}
use Rattle.lg_vtree.specs.declared.expr.Expr.TheVariants as expr
use Rattle.lg_vtree.specs.Printed.{operator_text}
use Rattle.lg_vtree.specs.Token.{is_name, is_number, is_range}
use Rattle.lg_vtree.specs.Grammar.{Token, Fixed, Named, Number, Sized, is_token, range_tokens, expr_tokens, direction_token, port_tokens, ports_tokens, decl_tokens, fill_tokens, word_tokens, init_tokens, assign_tokens, edge_token, stmt_tokens, edge_tokens, is_high, decl_range, IsTree}
use Rattle.lg_vtree.proofs.Unrolled.{tokens-Const, tokens-Whole, tokens-Bit, tokens-Part, tokens-Item, tokens-Not, tokens-Binary, tokens-Choice, join_spelled, others_tokens}

-- tokens of the subset
abbrev Are : List Token → Type 0
Are ts = list_all is_token ts ≡ true

both : (ts us : List Token) → Are ts → Are us → Are (ts ++ us)
both ts us t u = list_all-append is_token ts us ∙ and_from (list_all is_token ts) (list_all is_token us) t u

named : (name : List ℕ) (ts : List Token) → is_name name ≡ true → Are ts → Are (Named name ∷ ts)
named name ts n h = and_from (is_name name) (list_all is_token ts) n h

-- ports and declarations

pub high_from_range : (range : Option ℕ) → is_range range ≡ true → is_high range ≡ true
high_from_range None r = refl
high_from_range (Some high) r = (and_parts _ (is_number high) r).0

pub after_range : (range : Option ℕ) (ts : List Token) → is_range range ≡ true → list_all is_token ts ≡ true → list_all is_token (range_tokens range ++ ts) ≡ true
after_range None ts r h = h
after_range (Some high) ts r h = and_from (is_number high) (list_all is_token ts) (and_parts _ (is_number high) r).1 h

pub port_from_parts : (p : Port) → is_range p.range ≡ true → is_name p.name ≡ true → list_all is_token (port_tokens p) ≡ true
port_from_parts p r n = by_direction p.direction
  where
    by_direction : (d : Direction) → Are (direction_token d ∷ Fixed (codes "wire") ∷ (range_tokens p.range ++ Named p.name ∷ []))
    by_direction Input = after_range p.range (Named p.name ∷ []) r (named p.name [] n refl)
    by_direction Output = after_range p.range (Named p.name ∷ []) r (named p.name [] n refl)

ports_with_commas : (ps : List Port) → list_all is_token (flat_map port_tokens ps) ≡ true → list_all is_token (ports_tokens ps) ≡ true
ports_with_commas [] h = refl
ports_with_commas (p ∷ ps) h =
    let parts = and_parts (list_all is_token (port_tokens p)) (list_all is_token (flat_map port_tokens ps)) (sym (list_all-append is_token (port_tokens p) (flat_map port_tokens ps)) ∙ h) in
    both (port_tokens p) (flat_map (λ (q : Port). Fixed (codes ",") ∷ port_tokens q) ps) parts.0 (commas ps parts.1)
  where
    commas : (qs : List Port) → Are (flat_map port_tokens qs) → Are (flat_map (λ (q : Port). Fixed (codes ",") ∷ port_tokens q) qs)
    commas [] h = refl
    commas (q ∷ qs) h =
        let parts = and_parts (list_all is_token (port_tokens q)) (list_all is_token (flat_map port_tokens qs)) (sym (list_all-append is_token (port_tokens q) (flat_map port_tokens qs)) ∙ h) in
        both (port_tokens q) (flat_map (λ (q : Port). Fixed (codes ",") ∷ port_tokens q) qs) parts.0 (commas qs parts.1)

-- what memories hold at the start

pub init_from_parts : (i : Init) → list_all is_token (flat_map fill_tokens i.fills) ≡ true → list_all is_token (flat_map word_tokens i.words) ≡ true → list_all is_token (init_tokens (Some i)) ≡ true
init_from_parts i f w = both (flat_map fill_tokens i.fills) (flat_map word_tokens i.words ++ Fixed (codes "end") ∷ []) f (both (flat_map word_tokens i.words) (Fixed (codes "end") ∷ []) w refl)

-- expressions

pub const_from_parts : (c : Constant) → list_all is_token (Sized c ∷ []) ≡ true → list_all is_token (expr_tokens (expr.Const c)) ≡ true
const_from_parts c h = ap (list_all is_token) (tokens-Const c) ∙ h

pub whole_from_parts : (name : List ℕ) → is_name name ≡ true → list_all is_token (expr_tokens (expr.Whole name)) ≡ true
whole_from_parts name n = ap (list_all is_token) (tokens-Whole name) ∙ named name [] n refl

pub bit_from_parts : (name : List ℕ) (index : ℕ) → is_name name ≡ true → is_number index ≡ true → list_all is_token (expr_tokens (expr.Bit name index)) ≡ true
bit_from_parts name index n p = ap (list_all is_token) (tokens-Bit name index) ∙ named name (Fixed (codes "[") ∷ Number index ∷ Fixed (codes "]") ∷ []) n (and_from (is_number index) true p refl)

pub part_from_parts : (name : List ℕ) (high low : ℕ) → is_name name ≡ true → is_number high ≡ true → is_number low ≡ true → list_all is_token (expr_tokens (expr.Part name high low)) ≡ true
part_from_parts name high low n h l = ap (list_all is_token) (tokens-Part name high low) ∙ named name (Fixed (codes "[") ∷ Number high ∷ Fixed (codes ":") ∷ Number low ∷ Fixed (codes "]") ∷ []) n (and_from (is_number high) (is_number low && true) h (and_from (is_number low) true l refl))

pub item_from_parts : (name : List ℕ) (e : Expr) → is_name name ≡ true → list_all is_token (expr_tokens e) ≡ true → list_all is_token (expr_tokens (expr.Item name e)) ≡ true
item_from_parts name e n h = ap (list_all is_token) (tokens-Item name e) ∙ named name (Fixed (codes "[") ∷ (expr_tokens e ++ Fixed (codes "]") ∷ [])) n (both (expr_tokens e) (Fixed (codes "]") ∷ []) h refl)

pub not_from_parts : (e : Expr) → list_all is_token (expr_tokens e) ≡ true → list_all is_token (expr_tokens (expr.Not e)) ≡ true
not_from_parts e h = ap (list_all is_token) (tokens-Not e) ∙ both (expr_tokens e) (Fixed (codes ")") ∷ []) h refl

pub binary_from_parts : (a : Expr) (op : Operator) (b : Expr) → list_all is_token (expr_tokens a) ≡ true → list_all is_token (expr_tokens b) ≡ true → list_all is_token (expr_tokens (expr.Binary a op b)) ≡ true
binary_from_parts a op b h k = ap (list_all is_token) (tokens-Binary a op b) ∙ both (expr_tokens a) (Fixed (operator_text op) ∷ (expr_tokens b ++ Fixed (codes ")") ∷ [])) h (both (expr_tokens b) (Fixed (codes ")") ∷ []) k refl)

pub choice_from_parts : (c a b : Expr) → list_all is_token (expr_tokens c) ≡ true → list_all is_token (expr_tokens a) ≡ true → list_all is_token (expr_tokens b) ≡ true → list_all is_token (expr_tokens (expr.Choice c a b)) ≡ true
choice_from_parts c a b g h k =
    ap (list_all is_token) (tokens-Choice c a b)
    ∙ both (expr_tokens c) (Fixed (codes "?") ∷ (expr_tokens a ++ Fixed (codes ":") ∷ (expr_tokens b ++ Fixed (codes ")") ∷ []))) g (
    both (expr_tokens a) (Fixed (codes ":") ∷ (expr_tokens b ++ Fixed (codes ")") ∷ [])) h (both (expr_tokens b) (Fixed (codes ")") ∷ []) k refl)
    )

others_with_commas : (es : List Expr) → Are (flat_map expr_tokens es) → Are (others_tokens es)
others_with_commas [] h = refl
others_with_commas (e ∷ es) h =
    let parts = and_parts (list_all is_token (expr_tokens e)) (list_all is_token (flat_map expr_tokens es)) (sym (list_all-append is_token (expr_tokens e) (flat_map expr_tokens es)) ∙ h) in
    both (expr_tokens e) (others_tokens es) parts.0 (others_with_commas es parts.1)

pub join_from_parts : (a b : Expr) (more : List Expr) → list_all is_token (expr_tokens a) ≡ true → list_all is_token (expr_tokens b) ≡ true → list_all is_token (flat_map expr_tokens more) ≡ true → list_all is_token (expr_tokens (expr.Join a b more)) ≡ true
join_from_parts a b more h k m =
    let end : List Token = Fixed (codes "}") ∷ [] in
    let whole = both (expr_tokens a) (Fixed (codes ",") ∷ (expr_tokens b ++ (others_tokens more ++ end))) h (both (expr_tokens b) (others_tokens more ++ end) k (both (others_tokens more) end (others_with_commas more m) refl)) in
    ap (list_all is_token) (sym (append-nil (expr_tokens (expr.Join a b more))) ∙ join_spelled a b more []) ∙ whole

-- assignments and edges

pub assign_from_parts : (a : Assign) → is_name a.name ≡ true → list_all is_token (expr_tokens a.value) ≡ true → list_all is_token (assign_tokens a) ≡ true
assign_from_parts a n h = named a.name (Fixed (codes "=") ∷ (expr_tokens a.value ++ Fixed (codes ";") ∷ [])) n (both (expr_tokens a.value) (Fixed (codes ";") ∷ []) h refl)

pub store_from_parts : (name : List ℕ) (value : Expr) → is_name name ≡ true → list_all is_token (expr_tokens value) ≡ true → list_all is_token (stmt_tokens (stmt.Store name value)) ≡ true
store_from_parts name value n h = named name (Fixed (codes "<=") ∷ (expr_tokens value ++ Fixed (codes ";") ∷ [])) n (both (expr_tokens value) (Fixed (codes ";") ∷ []) h refl)

pub store_if_from_parts : (condition : Expr) (name : List ℕ) (address value : Expr) → list_all is_token (expr_tokens condition) ≡ true → is_name name ≡ true → list_all is_token (expr_tokens address) ≡ true → list_all is_token (expr_tokens value) ≡ true → list_all is_token (stmt_tokens (stmt.StoreIf condition name address value)) ≡ true
store_if_from_parts condition name address value c n p v =
    let last : List Token = expr_tokens value ++ Fixed (codes ";") ∷ [] in
    let middle : List Token = expr_tokens address ++ Fixed (codes "]") ∷ Fixed (codes "<=") ∷ last in
    both (expr_tokens condition) (Fixed (codes ")") ∷ Named name ∷ Fixed (codes "[") ∷ middle) c (named name (Fixed (codes "[") ∷ middle) n (both (expr_tokens address) (Fixed (codes "]") ∷ Fixed (codes "<=") ∷ last) p (both (expr_tokens value) (Fixed (codes ";") ∷ []) v refl)))

pub edge_from_stmts : (e : Edge) → list_all is_token (flat_map stmt_tokens e.stmts) ≡ true → list_all is_token (edge_tokens (Some e)) ≡ true
edge_from_stmts e h = by_kind e.kind
  where
    end : Are (flat_map stmt_tokens e.stmts ++ Fixed (codes "end") ∷ [])
    end = both (flat_map stmt_tokens e.stmts) (Fixed (codes "end") ∷ []) h refl

    by_kind : (k : EdgeKind) → Are (Fixed (codes "always") ∷ Fixed (codes "@") ∷ Fixed (codes "(") ∷ edge_token k ∷ Named (codes "clk") ∷ Fixed (codes ")") ∷ Fixed (codes "begin") ∷ (flat_map stmt_tokens e.stmts ++ Fixed (codes "end") ∷ []))
    by_kind Rising = end
    by_kind Falling = end

-- modules

pub tree_from_parts : (m : Module) → is_name m.name ≡ true → list_all is_token (flat_map port_tokens m.ports) ≡ true → AllByRecursion (λ p. is_high p.range ≡ true) m.ports
    → list_all is_token (flat_map decl_tokens m.decls) ≡ true → AllByRecursion (λ d. is_high (decl_range d) ≡ true) m.decls → list_all is_token (init_tokens m.init) ≡ true
    → list_all is_token (flat_map assign_tokens m.assigns) ≡ true → list_all is_token (edge_tokens m.edge) ≡ true → IsTree m
tree_from_parts m n p ports d decls i a e =
    let end : List Token = Fixed (codes "endmodule") ∷ [] in
    let last : List Token = edge_tokens m.edge ++ end in
    let third : List Token = flat_map assign_tokens m.assigns ++ last in
    let second : List Token = init_tokens m.init ++ third in
    let first : List Token = flat_map decl_tokens m.decls ++ second in
    record {
      tokens = named m.name (Fixed (codes "(") ∷ (ports_tokens m.ports ++ Fixed (codes ")") ∷ Fixed (codes ";") ∷ first)) n (
          both (ports_tokens m.ports) (Fixed (codes ")") ∷ Fixed (codes ";") ∷ first) (ports_with_commas m.ports p) (both (flat_map decl_tokens m.decls) second d (both (init_tokens m.init) third i (both (flat_map assign_tokens m.assigns) last a (both (edge_tokens m.edge) end e refl))))
          );
      ports = ports;
      decls = decls;
    }
