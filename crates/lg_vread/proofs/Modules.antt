-- Modules: what is read is spelled so, and what is spelled so is read again.
use Rattle.std.proofs.Common.{◌≡◌, ℕ, suc, ◌<◌, ◌≤◌, true, false, cond, eqb, List, [], ◌∷◌, ◌++◌, length, map, Option, Some, None, refl, sym, ap, ◌∙◌, append_assoc, arith, inl, inr, subst}
use Rattle.std.specs.Prelude.{codes}
use Rattle.std.specs.List.{flat_map, AllByRecursion}
use Rattle.std.proofs.lemmas.Bool.{cond-false, eqb-true}
use Rattle.std.proofs.lemmas.Option.{same_Some}
use Rattle.lg_vtree.specs.declared.module.Port.{Port}
use Rattle.lg_vtree.specs.declared.module.Decl.{Decl}
use Rattle.lg_vtree.specs.declared.module.Init.{Init}
use Rattle.lg_vtree.specs.declared.module.Assign.{Assign}
use Rattle.lg_vtree.specs.declared.module.EdgeKind.{EdgeKind}
use Rattle.lg_vtree.specs.declared.module.EdgeKind.TheVariants.{Rising, Falling}
use Rattle.lg_vtree.specs.declared.module.Stmt.{Stmt}
use Rattle.lg_vtree.specs.declared.module.Stmt.TheVariants as stmt
use Rattle.lg_vtree.specs.declared.module.Edge.{Edge}
use Rattle.lg_vtree.specs.declared.module.Module.{Module}
use Rattle.lg_vtree.specs.declared.expr.Expr.{Expr}
use Rattle.lg_vtree.specs.Grammar.{Token, Fixed, Named, expr_tokens, ports_tokens, decl_tokens, init_tokens, assign_tokens, edge_token, stmt_tokens, edge_tokens, module_tokens}
use Rattle.lg_vtree.specs.Depth.{greatest, depth, stmt_depth, edge_depth, module_depth}
use Rattle.lg_vread.specs.Reading.{◌>>=◌, is_at, tail, after, name_at, after_name, many_at, expr_at, ports_at, decl_at, declares, goes_on, maybe_init_at, assign_at, stored_at, store_at, condition_at, target_at, store_if_at, stmt_at, edge_kind_at, edge_start_at, edge_at, maybe_edge_at, head_at, ends_at, module_at}
use Rattle.lg_vread.proofs.Steps.{bind_some, bind_at, chosen, guarded, at_takes, after_takes, name_takes, after_name_takes, part, Taken, IsReader, many_takes, all_again}
use Rattle.lg_vread.proofs.Exprs.{IsDeep, expr_reader}
use Rattle.lg_vread.proofs.Declarations.{IsPort, ports_reader, IsDecl, decl_reader, decl_opens, decl_some, NoInit, maybe_init_reader}

-- edges

abbrev one_kind : EdgeKind → List Token
one_kind k = edge_token k ∷ []

edge_kind_takes : (ts : List Token) (x : EdgeKind × List Token) → edge_kind_at ts ≡ Some x → ts ≡ one_kind x.0 ++ x.1
unfolding edge_kind_at
edge_kind_takes ts x e = elim (chosen (is_at (codes "posedge") ts) (Some (Rising, tail ts)) (after (codes "negedge") ts >>= λ rest. Some (Falling, rest)) (Some x) e) as (λ _. ts ≡ one_kind x.0 ++ x.1) [
  | inl w ↦ let made : (Rising, tail ts) ≡ x = cc w.1 in subst (λ (y : EdgeKind × List Token). ts ≡ one_kind y.0 ++ y.1) made (at_takes (codes "posedge") ts w.0)
  | inr w ↦
      let a = bind_some (after (codes "negedge") ts) (λ rest. Some (Falling, rest)) x w.1 in
      let made : (Falling, a.0) ≡ x = cc a.2 in
      subst (λ (y : EdgeKind × List Token). ts ≡ one_kind y.0 ++ y.1) made (after_takes (codes "negedge") ts a.0 a.1)
]

edge_kind_again : (k : EdgeKind) (rest : List Token) → edge_kind_at (one_kind k ++ rest) ≡ Some (k, rest)
unfolding edge_kind_at
edge_kind_again Rising rest = refl
edge_kind_again Falling rest = refl

abbrev edge_start : EdgeKind → List Token
edge_start kind = Fixed (codes "@") ∷ Fixed (codes "(") ∷ edge_token kind ∷ Named (codes "clk") ∷ Fixed (codes ")") ∷ Fixed (codes "begin") ∷ []

edge_start_takes : (ts : List Token) (x : EdgeKind × List Token) → edge_start_at ts ≡ Some x → ts ≡ edge_start x.0 ++ x.1
unfolding edge_start_at
edge_start_takes ts x e =
    let a0 = bind_some (after (codes "@") ts) (λ sign. after (codes "(") sign >>= λ paren. edge_kind_at paren >>= λ kind. after_name (codes "clk") kind.1 >>= λ clock. after (codes ")") clock >>= λ close. after (codes "begin") close >>= λ begin. Some (kind.0, begin)) x e in
    let t0 = after_takes (codes "@") ts a0.0 a0.1 in
    let a1 = bind_some (after (codes "(") a0.0) (λ paren. edge_kind_at paren >>= λ kind. after_name (codes "clk") kind.1 >>= λ clock. after (codes ")") clock >>= λ close. after (codes "begin") close >>= λ begin. Some (kind.0, begin)) x a0.2 in
    let t1 = after_takes (codes "(") a0.0 a1.0 a1.1 in
    let a2 = bind_some (edge_kind_at a1.0) (λ kind. after_name (codes "clk") kind.1 >>= λ clock. after (codes ")") clock >>= λ close. after (codes "begin") close >>= λ begin. Some (kind.0, begin)) x a1.2 in
    let t2 = edge_kind_takes a1.0 a2.0 a2.1 in
    let a3 = bind_some (after_name (codes "clk") a2.0.1) (λ clock. after (codes ")") clock >>= λ close. after (codes "begin") close >>= λ begin. Some (a2.0.0, begin)) x a2.2 in
    let t3 = after_name_takes (codes "clk") a2.0.1 a3.0 a3.1 in
    let a4 = bind_some (after (codes ")") a3.0) (λ close. after (codes "begin") close >>= λ begin. Some (a2.0.0, begin)) x a3.2 in
    let t4 = after_takes (codes ")") a3.0 a4.0 a4.1 in
    let a5 = bind_some (after (codes "begin") a4.0) (λ begin. Some (a2.0.0, begin)) x a4.2 in
    let t5 = after_takes (codes "begin") a4.0 a5.0 a5.1 in
    let made : (a2.0.0, a5.0) ≡ x = same_Some (a2.0.0, a5.0) x a5.2 in
    subst (λ y. ts ≡ edge_start y.0 ++ y.1) made (t0 ∙ ap (λ r. Fixed (codes "@") ∷ r) (t1 ∙ ap (λ r. Fixed (codes "(") ∷ r) (t2 ∙ ap (λ r. (one_kind a2.0.0) ++ r) (t3 ∙ ap (λ r. Named (codes "clk") ∷ r) (t4 ∙ ap (λ r. Fixed (codes ")") ∷ r) (t5))))))

edge_start_again : (kind : EdgeKind) (rest : List Token) → edge_start_at (edge_start kind ++ rest) ≡ Some (kind, rest)
unfolding edge_start_at after_name
edge_start_again kind rest =
    bind_at (edge_kind_at ((one_kind kind) ++ ((Named (codes "clk") ∷ Fixed (codes ")") ∷ Fixed (codes "begin") ∷ []) ++ rest))) (λ kind. after_name (codes "clk") kind.1 >>= λ clock. after (codes ")") clock >>= λ close. after (codes "begin") close >>= λ begin. Some (kind.0, begin)) (kind, ((Named (codes "clk") ∷ Fixed (codes ")") ∷ Fixed (codes "begin") ∷ []) ++ rest)) (edge_kind_again kind ((Named (codes "clk") ∷ Fixed (codes ")") ∷ Fixed (codes "begin") ∷ []) ++ rest))

abbrev some_edge_tokens : Edge → List Token
some_edge_tokens e = edge_tokens (Some e)

abbrev after_always : List Token → List Token
after_always ts = Fixed (codes "always") ∷ ts

abbrev after_if : List Token → List Token
after_if ts = Fixed (codes "if") ∷ ts

abbrev stored : Expr → List Token
stored e = Fixed (codes "<=") ∷ (expr_tokens e ++ Fixed (codes ";") ∷ [])

abbrev conditioned : Expr → List Token
conditioned e = Fixed (codes "(") ∷ (expr_tokens e ++ Fixed (codes ")") ∷ [])

abbrev targeted : List ℕ × Expr × Expr → List Token
targeted t = Named t.0 ∷ Fixed (codes "[") ∷ (expr_tokens t.1 ++ Fixed (codes "]") ∷ stored t.2)

if_tokens : (condition : Expr) (t : List ℕ × Expr × Expr) → tail (stmt_tokens (stmt.StoreIf condition t.0 t.1 t.2)) ≡ conditioned condition ++ targeted t
if_tokens condition t = ap (λ r. Fixed (codes "(") ∷ r) (sym (append_assoc (expr_tokens condition) (Fixed (codes ")") ∷ []) (targeted t)))

stmt_opens : (s : Stmt) (r : List Token) → goes_on (stmt_tokens s ++ r) ≡ true
stmt_opens (stmt.Store name value) r = refl
stmt_opens (stmt.StoreIf condition name address value) r = refl

pub stmt_some : (s : Stmt) → 0 < length (stmt_tokens s)
stmt_some (stmt.Store name value) = omega arith
stmt_some (stmt.StoreIf condition name address value) = omega arith

-- before what is no edge
abbrev pub NoEdge : List Token → Type 0
NoEdge ts = is_at (codes "always") ts ≡ false

module _ (most : ℕ) where
  abbrev pub IsAssign : Assign → Type 0
  IsAssign a = depth a.value ≤ most

  abbrev pub IsStmt : Stmt → Type 0
  IsStmt s = stmt_depth s ≤ most

  abbrev pub IsEdge : Edge → Type 0
  IsEdge e = AllByRecursion IsStmt e.stmts

  abbrev pub IsMaybeEdge : Option Edge → Type 0
  IsMaybeEdge None = Unit {0}
  IsMaybeEdge (Some e) = IsEdge e

  assign_takes : (ts : List Token) (x : Assign × List Token) → assign_at most ts ≡ Some x → Taken assign_tokens IsAssign ts x
  unfolding assign_at
  assign_takes ts x e =
      let a0 = bind_some (after (codes "assign") ts) (λ start. name_at start >>= λ name. after (codes "=") name.1 >>= λ equals. expr_at most equals >>= λ value. after (codes ";") value.1 >>= λ end. Some (record { name = name.0; value = value.0 }, end)) x e in
      let t0 = after_takes (codes "assign") ts a0.0 a0.1 in
      let a1 = bind_some (name_at a0.0) (λ name. after (codes "=") name.1 >>= λ equals. expr_at most equals >>= λ value. after (codes ";") value.1 >>= λ end. Some (record { name = name.0; value = value.0 }, end)) x a0.2 in
      let t1 = name_takes a0.0 a1.0 a1.1 in
      let a2 = bind_some (after (codes "=") a1.0.1) (λ equals. expr_at most equals >>= λ value. after (codes ";") value.1 >>= λ end. Some (record { name = a1.0.0; value = value.0 }, end)) x a1.2 in
      let t2 = after_takes (codes "=") a1.0.1 a2.0 a2.1 in
      let a3 = bind_some (expr_at most a2.0) (λ value. after (codes ";") value.1 >>= λ end. Some (record { name = a1.0.0; value = value.0 }, end)) x a2.2 in
      let t3 = (expr_reader most).takes a2.0 a3.0 a3.1 in
      let a4 = bind_some (after (codes ";") a3.0.1) (λ end. Some (record { name = a1.0.0; value = a3.0.0 }, end)) x a3.2 in
      let t4 = after_takes (codes ";") a3.0.1 a4.0 a4.1 in
      let made : (record { name = a1.0.0; value = a3.0.0 }, a4.0) ≡ x = same_Some (record { name = a1.0.0; value = a3.0.0 }, a4.0) x a4.2 in
      subst (Taken assign_tokens IsAssign ts) made (t0 ∙ ap (λ r. Fixed (codes "assign") ∷ r) (t1 ∙ ap (λ r. Named a1.0.0 ∷ r) (t2 ∙ ap (λ r. Fixed (codes "=") ∷ r) (part (expr_tokens a3.0.0) (Fixed (codes ";") ∷ []) a2.0 a3.0.1 a4.0 t3.0 (t4)))), t3.1)

  assign_again : (a : Assign) (rest : List Token) → IsAssign a → assign_at most (assign_tokens a ++ rest) ≡ Some (a, rest)
  unfolding assign_at
  assign_again a rest good =
      ap (λ ts. expr_at most ts >>= (λ value. after (codes ";") value.1 >>= λ end. Some (record { name = a.name; value = value.0 }, end))) (append_assoc (expr_tokens a.value) (Fixed (codes ";") ∷ []) rest)
      ∙ bind_at (expr_at most ((expr_tokens a.value) ++ ((Fixed (codes ";") ∷ []) ++ rest))) (λ value. after (codes ";") value.1 >>= λ end. Some (record { name = a.name; value = value.0 }, end)) (a.value, ((Fixed (codes ";") ∷ []) ++ rest)) ((expr_reader most).again a.value ((Fixed (codes ";") ∷ []) ++ rest) good refl)

  stored_takes : (ts : List Token) (x : Expr × List Token) → stored_at most ts ≡ Some x → Taken stored (IsDeep most) ts x
  unfolding stored_at
  stored_takes ts x e =
      let a0 = bind_some (after (codes "<=") ts) (λ arrow. expr_at most arrow >>= λ value. after (codes ";") value.1 >>= λ end. Some (value.0, end)) x e in
      let t0 = after_takes (codes "<=") ts a0.0 a0.1 in
      let a1 = bind_some (expr_at most a0.0) (λ value. after (codes ";") value.1 >>= λ end. Some (value.0, end)) x a0.2 in
      let t1 = (expr_reader most).takes a0.0 a1.0 a1.1 in
      let a2 = bind_some (after (codes ";") a1.0.1) (λ end. Some (a1.0.0, end)) x a1.2 in
      let t2 = after_takes (codes ";") a1.0.1 a2.0 a2.1 in
      let made : (a1.0.0, a2.0) ≡ x = same_Some (a1.0.0, a2.0) x a2.2 in
      subst (Taken stored (IsDeep most) ts) made (t0 ∙ ap (λ r. Fixed (codes "<=") ∷ r) (part (expr_tokens a1.0.0) (Fixed (codes ";") ∷ []) a0.0 a1.0.1 a2.0 t1.0 (t2)), t1.1)

  stored_again : (e : Expr) (rest : List Token) → IsDeep most e → stored_at most (stored e ++ rest) ≡ Some (e, rest)
  unfolding stored_at
  stored_again e rest good =
      ap (λ ts. expr_at most ts >>= (λ value. after (codes ";") value.1 >>= λ end. Some (value.0, end))) (append_assoc (expr_tokens e) (Fixed (codes ";") ∷ []) rest)
      ∙ bind_at (expr_at most ((expr_tokens e) ++ ((Fixed (codes ";") ∷ []) ++ rest))) (λ value. after (codes ";") value.1 >>= λ end. Some (value.0, end)) (e, ((Fixed (codes ";") ∷ []) ++ rest)) ((expr_reader most).again e ((Fixed (codes ";") ∷ []) ++ rest) good refl)

  stored_reader : IsReader (stored_at most) stored (IsDeep most) (λ _. Unit {0})
  stored_reader = record { takes = stored_takes; again = λ e rest good next. stored_again e rest good }

  store_takes : (ts : List Token) (x : Stmt × List Token) → store_at most ts ≡ Some x → Taken stmt_tokens IsStmt ts x
  unfolding store_at
  store_takes ts x e =
      let a0 = bind_some (name_at ts) (λ name. stored_at most name.1 >>= λ value. Some (stmt.Store name.0 value.0, value.1)) x e in
      let t0 = name_takes ts a0.0 a0.1 in
      let a1 = bind_some (stored_at most a0.0.1) (λ value. Some (stmt.Store a0.0.0 value.0, value.1)) x a0.2 in
      let t1 = stored_reader.takes a0.0.1 a1.0 a1.1 in
      let made : (stmt.Store a0.0.0 a1.0.0, a1.0.1) ≡ x = same_Some (stmt.Store a0.0.0 a1.0.0, a1.0.1) x a1.2 in
      subst (Taken stmt_tokens IsStmt ts) made (t0 ∙ ap (λ r. Named a0.0.0 ∷ r) (t1.0), t1.1)

  store_again : (name : List ℕ) (value : Expr) (rest : List Token) → IsStmt (stmt.Store name value) → store_at most (stmt_tokens (stmt.Store name value) ++ rest) ≡ Some (stmt.Store name value, rest)
  unfolding store_at
  store_again name value rest good =
      bind_at (stored_at most ((stored value) ++ rest)) (λ value. Some (stmt.Store name value.0, value.1)) (value, rest) (stored_reader.again value rest good tt)

  condition_takes : (ts : List Token) (x : Expr × List Token) → condition_at most ts ≡ Some x → Taken conditioned (IsDeep most) ts x
  unfolding condition_at
  condition_takes ts x e =
      let a0 = bind_some (after (codes "(") ts) (λ paren. expr_at most paren >>= λ condition. after (codes ")") condition.1 >>= λ end. Some (condition.0, end)) x e in
      let t0 = after_takes (codes "(") ts a0.0 a0.1 in
      let a1 = bind_some (expr_at most a0.0) (λ condition. after (codes ")") condition.1 >>= λ end. Some (condition.0, end)) x a0.2 in
      let t1 = (expr_reader most).takes a0.0 a1.0 a1.1 in
      let a2 = bind_some (after (codes ")") a1.0.1) (λ end. Some (a1.0.0, end)) x a1.2 in
      let t2 = after_takes (codes ")") a1.0.1 a2.0 a2.1 in
      let made : (a1.0.0, a2.0) ≡ x = same_Some (a1.0.0, a2.0) x a2.2 in
      subst (Taken conditioned (IsDeep most) ts) made (t0 ∙ ap (λ r. Fixed (codes "(") ∷ r) (part (expr_tokens a1.0.0) (Fixed (codes ")") ∷ []) a0.0 a1.0.1 a2.0 t1.0 (t2)), t1.1)

  condition_again : (e : Expr) (rest : List Token) → IsDeep most e → condition_at most (conditioned e ++ rest) ≡ Some (e, rest)
  unfolding condition_at
  condition_again e rest good =
      ap (λ ts. expr_at most ts >>= (λ condition. after (codes ")") condition.1 >>= λ end. Some (condition.0, end))) (append_assoc (expr_tokens e) (Fixed (codes ")") ∷ []) rest)
      ∙ bind_at (expr_at most ((expr_tokens e) ++ ((Fixed (codes ")") ∷ []) ++ rest))) (λ condition. after (codes ")") condition.1 >>= λ end. Some (condition.0, end)) (e, ((Fixed (codes ")") ∷ []) ++ rest)) ((expr_reader most).again e ((Fixed (codes ")") ∷ []) ++ rest) good refl)

  condition_reader : IsReader (condition_at most) conditioned (IsDeep most) (λ _. Unit {0})
  condition_reader = record { takes = condition_takes; again = λ e rest good next. condition_again e rest good }

  abbrev IsTarget : List ℕ × Expr × Expr → Type 0
  IsTarget t = (depth t.1 ≤ most) × (depth t.2 ≤ most)

  target_takes : (ts : List Token) (x : (List ℕ × Expr × Expr) × List Token) → target_at most ts ≡ Some x → Taken targeted IsTarget ts x
  unfolding target_at
  target_takes ts x e =
      let a0 = bind_some (name_at ts) (λ name. after (codes "[") name.1 >>= λ bracket. expr_at most bracket >>= λ address. after (codes "]") address.1 >>= λ close. stored_at most close >>= λ value. Some ((name.0, address.0, value.0), value.1)) x e in
      let t0 = name_takes ts a0.0 a0.1 in
      let a1 = bind_some (after (codes "[") a0.0.1) (λ bracket. expr_at most bracket >>= λ address. after (codes "]") address.1 >>= λ close. stored_at most close >>= λ value. Some ((a0.0.0, address.0, value.0), value.1)) x a0.2 in
      let t1 = after_takes (codes "[") a0.0.1 a1.0 a1.1 in
      let a2 = bind_some (expr_at most a1.0) (λ address. after (codes "]") address.1 >>= λ close. stored_at most close >>= λ value. Some ((a0.0.0, address.0, value.0), value.1)) x a1.2 in
      let t2 = (expr_reader most).takes a1.0 a2.0 a2.1 in
      let a3 = bind_some (after (codes "]") a2.0.1) (λ close. stored_at most close >>= λ value. Some ((a0.0.0, a2.0.0, value.0), value.1)) x a2.2 in
      let t3 = after_takes (codes "]") a2.0.1 a3.0 a3.1 in
      let a4 = bind_some (stored_at most a3.0) (λ value. Some ((a0.0.0, a2.0.0, value.0), value.1)) x a3.2 in
      let t4 = stored_reader.takes a3.0 a4.0 a4.1 in
      let made : ((a0.0.0, a2.0.0, a4.0.0), a4.0.1) ≡ x = same_Some ((a0.0.0, a2.0.0, a4.0.0), a4.0.1) x a4.2 in
      subst (Taken targeted IsTarget ts) made (t0 ∙ ap (λ r. Named a0.0.0 ∷ r) (t1 ∙ ap (λ r. Fixed (codes "[") ∷ r) (part (expr_tokens a2.0.0) (Fixed (codes "]") ∷ ((stored a4.0.0))) a1.0 a2.0.1 a4.0.1 t2.0 (t3 ∙ ap (λ r. Fixed (codes "]") ∷ r) (t4.0)))), (t2.1, t4.1))

  target_again : (t : List ℕ × Expr × Expr) (rest : List Token) → IsTarget t → target_at most (targeted t ++ rest) ≡ Some (t, rest)
  unfolding target_at
  target_again t rest good =
      ap (λ ts. expr_at most ts >>= (λ address. after (codes "]") address.1 >>= λ close. stored_at most close >>= λ value. Some ((t.0, address.0, value.0), value.1))) (append_assoc (expr_tokens t.1) (Fixed (codes "]") ∷ ((stored t.2))) rest)
      ∙ bind_at (expr_at most ((expr_tokens t.1) ++ ((Fixed (codes "]") ∷ ((stored t.2))) ++ rest))) (λ address. after (codes "]") address.1 >>= λ close. stored_at most close >>= λ value. Some ((t.0, address.0, value.0), value.1)) (t.1, ((Fixed (codes "]") ∷ ((stored t.2))) ++ rest)) ((expr_reader most).again t.1 ((Fixed (codes "]") ∷ ((stored t.2))) ++ rest) good.0 refl)
      ∙ bind_at (stored_at most ((stored t.2) ++ rest)) (λ value. Some ((t.0, t.1, value.0), value.1)) (t.2, rest) (stored_reader.again t.2 rest good.1 tt)

  target_reader : IsReader (target_at most) targeted IsTarget (λ _. Unit {0})
  target_reader = record { takes = target_takes; again = λ t rest good next. target_again t rest good }

  store_if_takes : (ts : List Token) (x : Stmt × List Token) → store_if_at most ts ≡ Some x → Taken stmt_tokens IsStmt (after_if ts) x
  unfolding store_if_at
  store_if_takes ts x e =
      let a0 = bind_some (condition_at most ts) (λ condition. target_at most condition.1 >>= λ target. Some (stmt.StoreIf condition.0 target.0.0 target.0.1 target.0.2, target.1)) x e in
      let t0 = condition_reader.takes ts a0.0 a0.1 in
      let a1 = bind_some (target_at most a0.0.1) (λ target. Some (stmt.StoreIf a0.0.0 target.0.0 target.0.1 target.0.2, target.1)) x a0.2 in
      let t1 = target_reader.takes a0.0.1 a1.0 a1.1 in
      let made : (stmt.StoreIf a0.0.0 a1.0.0.0 a1.0.0.1 a1.0.0.2, a1.0.1) ≡ x = same_Some (stmt.StoreIf a0.0.0 a1.0.0.0 a1.0.0.1 a1.0.0.2, a1.0.1) x a1.2 in
      subst (Taken stmt_tokens IsStmt (after_if ts)) made (ap (λ r. after_if r) (part (conditioned a0.0.0) ((targeted a1.0.0)) ts a0.0.1 a1.0.1 t0.0 (t1.0) ∙ ap (λ r. r ++ a1.0.1) (sym (if_tokens a0.0.0 a1.0.0))), omega (arith, t0.1, t1.1.0, t1.1.1))

  store_if_again : (condition : Expr) (name : List ℕ) (address value : Expr) (rest : List Token) → IsStmt (stmt.StoreIf condition name address value) → store_if_at most (tail (stmt_tokens (stmt.StoreIf condition name address value) ++ rest)) ≡ Some (stmt.StoreIf condition name address value, rest)
  unfolding store_if_at
  store_if_again condition name address value rest good =
      ap (λ r. store_if_at most (r ++ rest)) (if_tokens condition (name, address, value))
      ∙ ap (λ ts. condition_at most ts >>= (λ condition. target_at most condition.1 >>= λ target. Some (stmt.StoreIf condition.0 target.0.0 target.0.1 target.0.2, target.1))) (append_assoc (conditioned condition) ((targeted (name, address, value))) rest)
      ∙ bind_at (condition_at most ((conditioned condition) ++ (((targeted (name, address, value))) ++ rest))) (λ condition. target_at most condition.1 >>= λ target. Some (stmt.StoreIf condition.0 target.0.0 target.0.1 target.0.2, target.1)) (condition, (((targeted (name, address, value))) ++ rest)) (condition_reader.again condition (((targeted (name, address, value))) ++ rest) (omega (arith, good)) tt)
      ∙ bind_at (target_at most ((targeted (name, address, value)) ++ rest)) (λ target. Some (stmt.StoreIf condition target.0.0 target.0.1 target.0.2, target.1)) ((name, address, value), rest) (target_reader.again (name, address, value) rest (omega (arith, good), omega (arith, good)) tt)

  pub assign_reader : IsReader (assign_at most) assign_tokens IsAssign (λ _. Unit {0})
  assign_reader = record { takes = assign_takes; again = λ a rest good next. assign_again a rest good }

  pub stmt_reader : IsReader (stmt_at most) stmt_tokens IsStmt (λ _. Unit {0})
  unfolding stmt_at
  stmt_reader = record {
    takes = λ ts x e. elim (chosen (is_at (codes "if") ts) (store_if_at most (tail ts)) (store_at most ts) (Some x) e) as (λ _. Taken stmt_tokens IsStmt ts x) [
      | inl w ↦ subst (λ r. Taken stmt_tokens IsStmt r x) (sym (at_takes (codes "if") ts w.0)) (store_if_takes (tail ts) x w.1)
      | inr w ↦ store_takes ts x w.1
    ];
    again = again;
  }
    where
      again : (s : Stmt) (rest : List Token) → IsStmt s → Unit {0} → stmt_at most (stmt_tokens s ++ rest) ≡ Some (s, rest)
      again (stmt.Store name value) rest good next = store_again name value rest good
      again (stmt.StoreIf condition name address value) rest good next = store_if_again condition name address value rest good

  stmts_take : (n : ℕ) (ts : List Token) (x : List Stmt × List Token) → many_at goes_on (stmt_at most) n ts ≡ Some x → Taken (flat_map stmt_tokens) (AllByRecursion IsStmt) ts x
  stmts_take = many_takes goes_on (stmt_at most) stmt_tokens IsStmt (λ _. Unit {0}) stmt_reader

  stmts_again : (xs : List Stmt) (rest : List Token) → AllByRecursion IsStmt xs → goes_on rest ≡ false → many_at goes_on (stmt_at most) (suc (length (flat_map stmt_tokens xs ++ rest))) (flat_map stmt_tokens xs ++ rest) ≡ Some (xs, rest)
  stmts_again xs rest good stop = all_again goes_on (stmt_at most) stmt_tokens IsStmt (λ _. Unit {0}) stmt_reader stmt_opens (λ s r. tt) stmt_some xs rest good stop tt

  edge_takes : (ts : List Token) (x : Edge × List Token) → edge_at most ts ≡ Some x → Taken some_edge_tokens IsEdge (after_always ts) x
  unfolding edge_at
  edge_takes ts x e =
      let a0 = bind_some (edge_start_at ts) (λ kind. many_at goes_on (stmt_at most) (suc (length kind.1)) kind.1 >>= λ stmts. after (codes "end") stmts.1 >>= λ end. Some (record { kind = kind.0; stmts = stmts.0 }, end)) x e in
      let t0 = edge_start_takes ts a0.0 a0.1 in
      let a1 = bind_some (many_at goes_on (stmt_at most) (suc (length a0.0.1)) a0.0.1) (λ stmts. after (codes "end") stmts.1 >>= λ end. Some (record { kind = a0.0.0; stmts = stmts.0 }, end)) x a0.2 in
      let t1 = stmts_take (suc (length a0.0.1)) a0.0.1 a1.0 a1.1 in
      let a2 = bind_some (after (codes "end") a1.0.1) (λ end. Some (record { kind = a0.0.0; stmts = a1.0.0 }, end)) x a1.2 in
      let t2 = after_takes (codes "end") a1.0.1 a2.0 a2.1 in
      let made : (record { kind = a0.0.0; stmts = a1.0.0 }, a2.0) ≡ x = same_Some (record { kind = a0.0.0; stmts = a1.0.0 }, a2.0) x a2.2 in
      subst (Taken some_edge_tokens IsEdge (after_always ts)) made (ap (λ r. after_always r) (t0 ∙ ap (λ r. (edge_start a0.0.0) ++ r) (part (flat_map stmt_tokens a1.0.0) (Fixed (codes "end") ∷ []) a0.0.1 a1.0.1 a2.0 t1.0 (t2))), t1.1)

  edge_again : (e : Edge) (rest : List Token) → IsEdge e → edge_at most (tail (some_edge_tokens e ++ rest)) ≡ Some (e, rest)
  unfolding edge_at
  edge_again e rest good =
      bind_at (edge_start_at ((edge_start e.kind) ++ (((flat_map stmt_tokens e.stmts) ++ Fixed (codes "end") ∷ []) ++ rest))) (λ kind. many_at goes_on (stmt_at most) (suc (length kind.1)) kind.1 >>= λ stmts. after (codes "end") stmts.1 >>= λ end. Some (record { kind = kind.0; stmts = stmts.0 }, end)) (e.kind, (((flat_map stmt_tokens e.stmts) ++ Fixed (codes "end") ∷ []) ++ rest)) (edge_start_again e.kind (((flat_map stmt_tokens e.stmts) ++ Fixed (codes "end") ∷ []) ++ rest))
      ∙ ap (λ ts. many_at goes_on (stmt_at most) (suc (length ts)) ts >>= (λ stmts. after (codes "end") stmts.1 >>= λ end. Some (record { kind = e.kind; stmts = stmts.0 }, end))) (append_assoc (flat_map stmt_tokens e.stmts) (Fixed (codes "end") ∷ []) rest)
      ∙ bind_at (many_at goes_on (stmt_at most) (suc (length ((flat_map stmt_tokens e.stmts) ++ ((Fixed (codes "end") ∷ []) ++ rest)))) ((flat_map stmt_tokens e.stmts) ++ ((Fixed (codes "end") ∷ []) ++ rest))) (λ stmts. after (codes "end") stmts.1 >>= λ end. Some (record { kind = e.kind; stmts = stmts.0 }, end)) (e.stmts, ((Fixed (codes "end") ∷ []) ++ rest)) (stmts_again e.stmts ((Fixed (codes "end") ∷ []) ++ rest) good refl)

  pub maybe_edge_reader : IsReader (maybe_edge_at most) edge_tokens IsMaybeEdge NoEdge
  unfolding maybe_edge_at
  maybe_edge_reader = record {
    takes = λ ts x e. elim (chosen (is_at (codes "always") ts) (edge_at most (tail ts) >>= λ e. Some (Some e.0, e.1)) (Some (None, ts)) (Some x) e) as (λ _. Taken edge_tokens IsMaybeEdge ts x) [
      | inl w ↦
          let a = bind_some (edge_at most (tail ts)) (λ e. Some (Some e.0, e.1)) x w.1 in
          let made : (Some a.0.0, a.0.1) ≡ x = cc a.2 in
          let first = edge_takes (tail ts) a.0 a.1 in
          subst (Taken edge_tokens IsMaybeEdge ts) made (at_takes (codes "always") ts w.0 ∙ first.0, first.1)
      | inr w ↦ let made : (None, ts) ≡ x = cc w.1 in subst (Taken edge_tokens IsMaybeEdge ts) made (refl, tt)
    ];
    again = again;
  }
    where
      again : (e : Option Edge) (rest : List Token) → IsMaybeEdge e → NoEdge rest → maybe_edge_at most (edge_tokens e ++ rest) ≡ Some (e, rest)
      again None rest good next = cond-false (is_at (codes "always") rest) (edge_at most (tail rest) >>= λ e. Some (Some e.0, e.1)) (Some (None, rest)) next
      again (Some e) rest good next = bind_at (edge_at most (tail (some_edge_tokens e ++ rest))) (λ e. Some (Some e.0, e.1)) (e, rest) (edge_again e rest good)

-- whole modules

abbrev head_tokens : List ℕ × List Port → List Token
head_tokens h = Fixed (codes "module") ∷ Named h.0 ∷ Fixed (codes "(") ∷ (ports_tokens h.1 ++ Fixed (codes ")") ∷ Fixed (codes ";") ∷ [])

abbrev IsHead : List ℕ × List Port → Type 0
IsHead h = AllByRecursion IsPort h.1

head_takes : (ts : List Token) (x : (List ℕ × List Port) × List Token) → head_at ts ≡ Some x → Taken head_tokens IsHead ts x
unfolding head_at
head_takes ts x e =
    let a0 = bind_some (after (codes "module") ts) (λ start. name_at start >>= λ name. after (codes "(") name.1 >>= λ paren. ports_at paren >>= λ ports. after (codes ")") ports.1 >>= λ close. after (codes ";") close >>= λ end. Some ((name.0, ports.0), end)) x e in
    let t0 = after_takes (codes "module") ts a0.0 a0.1 in
    let a1 = bind_some (name_at a0.0) (λ name. after (codes "(") name.1 >>= λ paren. ports_at paren >>= λ ports. after (codes ")") ports.1 >>= λ close. after (codes ";") close >>= λ end. Some ((name.0, ports.0), end)) x a0.2 in
    let t1 = name_takes a0.0 a1.0 a1.1 in
    let a2 = bind_some (after (codes "(") a1.0.1) (λ paren. ports_at paren >>= λ ports. after (codes ")") ports.1 >>= λ close. after (codes ";") close >>= λ end. Some ((a1.0.0, ports.0), end)) x a1.2 in
    let t2 = after_takes (codes "(") a1.0.1 a2.0 a2.1 in
    let a3 = bind_some (ports_at a2.0) (λ ports. after (codes ")") ports.1 >>= λ close. after (codes ";") close >>= λ end. Some ((a1.0.0, ports.0), end)) x a2.2 in
    let t3 = ports_reader.takes a2.0 a3.0 a3.1 in
    let a4 = bind_some (after (codes ")") a3.0.1) (λ close. after (codes ";") close >>= λ end. Some ((a1.0.0, a3.0.0), end)) x a3.2 in
    let t4 = after_takes (codes ")") a3.0.1 a4.0 a4.1 in
    let a5 = bind_some (after (codes ";") a4.0) (λ end. Some ((a1.0.0, a3.0.0), end)) x a4.2 in
    let t5 = after_takes (codes ";") a4.0 a5.0 a5.1 in
    let made : ((a1.0.0, a3.0.0), a5.0) ≡ x = same_Some ((a1.0.0, a3.0.0), a5.0) x a5.2 in
    subst (Taken head_tokens IsHead ts) made (t0 ∙ ap (λ r. Fixed (codes "module") ∷ r) (t1 ∙ ap (λ r. Named a1.0.0 ∷ r) (t2 ∙ ap (λ r. Fixed (codes "(") ∷ r) (part (ports_tokens a3.0.0) (Fixed (codes ")") ∷ Fixed (codes ";") ∷ []) a2.0 a3.0.1 a5.0 t3.0 (t4 ∙ ap (λ r. Fixed (codes ")") ∷ r) (t5))))), t3.1)

head_again : (h : List ℕ × List Port) (rest : List Token) → IsHead h → head_at (head_tokens h ++ rest) ≡ Some (h, rest)
unfolding head_at
head_again h rest good =
    ap (λ ts. ports_at ts >>= (λ ports. after (codes ")") ports.1 >>= λ close. after (codes ";") close >>= λ end. Some ((h.0, ports.0), end))) (append_assoc (ports_tokens h.1) (Fixed (codes ")") ∷ Fixed (codes ";") ∷ []) rest)
    ∙ bind_at (ports_at ((ports_tokens h.1) ++ ((Fixed (codes ")") ∷ Fixed (codes ";") ∷ []) ++ rest))) (λ ports. after (codes ")") ports.1 >>= λ close. after (codes ";") close >>= λ end. Some ((h.0, ports.0), end)) (h.1, ((Fixed (codes ")") ∷ Fixed (codes ";") ∷ []) ++ rest)) (ports_reader.again h.1 ((Fixed (codes ")") ∷ Fixed (codes ";") ∷ []) ++ rest) good refl)

head_reader : IsReader head_at head_tokens IsHead (λ _. Unit {0})
head_reader = record { takes = head_takes; again = λ h rest good next. head_again h rest good }

ends_takes : (ts rest : List Token) → ends_at ts ≡ Some rest → ts ≡ Fixed (codes "endmodule") ∷ []
unfolding ends_at
ends_takes ts rest e =
    let a = bind_some (after (codes "endmodule") ts) (λ rest. cond (eqb (length rest) 0) (Some rest) None) rest e in
    let g = guarded (eqb (length a.0) 0) a.0 rest a.2 in
    after_takes (codes "endmodule") ts a.0 a.1 ∙ ap (λ r. Fixed (codes "endmodule") ∷ r) (nothing a.0 g.0)
  where
    nothing : (r : List Token) → eqb (length r) 0 ≡ true → r ≡ []
    nothing [] e = refl
    nothing (t ∷ r) e = absurd (omega (arith, eqb-true (length (t ∷ r)) 0 e))

-- numbers are at most n where the greatest of them is
each_within : {A : Type 0} (f : A → ℕ) (n : ℕ) (xs : List A) → greatest (map f xs) ≤ n → AllByRecursion (λ x. f x ≤ n) xs
each_within f n [] h = tt
each_within f n (x ∷ xs) h = (omega arith, each_within f n xs (omega arith))

greatest_within : {A : Type 0} (f : A → ℕ) (n : ℕ) (xs : List A) → AllByRecursion (λ x. f x ≤ n) xs → greatest (map f xs) ≤ n
greatest_within f n [] h = omega arith
greatest_within f n (x ∷ xs) h = omega (arith, h.0, greatest_within f n xs h.1)

edge_deep : (most : ℕ) (e : Option Edge) → edge_depth e ≤ most → IsMaybeEdge most e
edge_deep most None h = tt
edge_deep most (Some e) h = each_within stmt_depth most e.stmts h

edge_within : (most : ℕ) (e : Option Edge) → IsMaybeEdge most e → edge_depth e ≤ most
edge_within most None h = omega arith
edge_within most (Some e) h = greatest_within stmt_depth most e.stmts h

-- a module whose ranges are those of the subset
pub record HasRanges (m : Module) : Type 0 where
  pub ports : AllByRecursion IsPort m.ports
  pub decls : AllByRecursion IsDecl m.decls

-- the tokens are those of a module whose expressions have at most a depth
pub record TakesModule (most : ℕ) (ts : List Token) (m : Module) : Type 0 where
  pub spelled : ts ≡ module_tokens m
  pub ranges : HasRanges m
  pub deep : module_depth m ≤ most

abbrev declare : List Token → Option (List Decl × List Token)
declare ts = many_at declares decl_at (suc (length ts)) ts

abbrev assign : ℕ → List Token → Option (List Assign × List Token)
assign most ts = many_at (is_at (codes "assign")) (assign_at most) (suc (length ts)) ts

abbrev made_module : (List ℕ × List Port) → List Decl → Option Init → List Assign → Option Edge → Module
made_module head decls init assigns edge = record { name = head.0; ports = head.1; decls = decls; init = init; assigns = assigns; edge = edge }

pub module_takes : (most : ℕ) (ts : List Token) (m : Module) → module_at most ts ≡ Some m → TakesModule most ts m
unfolding module_at
module_takes most ts m e =
    let a = bind_some (head_at ts) (λ head. declare head.1 >>= λ decls. maybe_init_at decls.1 >>= λ init. assign most init.1 >>= λ assigns. maybe_edge_at most assigns.1 >>= λ edge. ends_at edge.1 >>= λ end. Some (made_module head.0 decls.0 init.0 assigns.0 edge.0)) m e in
    let b = bind_some (declare a.0.1) (λ decls. maybe_init_at decls.1 >>= λ init. assign most init.1 >>= λ assigns. maybe_edge_at most assigns.1 >>= λ edge. ends_at edge.1 >>= λ end. Some (made_module a.0.0 decls.0 init.0 assigns.0 edge.0)) m a.2 in
    let c = bind_some (maybe_init_at b.0.1) (λ init. assign most init.1 >>= λ assigns. maybe_edge_at most assigns.1 >>= λ edge. ends_at edge.1 >>= λ end. Some (made_module a.0.0 b.0.0 init.0 assigns.0 edge.0)) m b.2 in
    let d = bind_some (assign most c.0.1) (λ assigns. maybe_edge_at most assigns.1 >>= λ edge. ends_at edge.1 >>= λ end. Some (made_module a.0.0 b.0.0 c.0.0 assigns.0 edge.0)) m c.2 in
    let f = bind_some (maybe_edge_at most d.0.1) (λ edge. ends_at edge.1 >>= λ end. Some (made_module a.0.0 b.0.0 c.0.0 d.0.0 edge.0)) m d.2 in
    let g = bind_some (ends_at f.0.1) (λ end. Some (made_module a.0.0 b.0.0 c.0.0 d.0.0 f.0.0)) m f.2 in
    let made = same_Some (made_module a.0.0 b.0.0 c.0.0 d.0.0 f.0.0) m g.2 in
    let head = head_takes ts a.0 a.1 in
    let decls = many_takes declares decl_at decl_tokens IsDecl (λ _. Unit {0}) decl_reader (suc (length a.0.1)) a.0.1 b.0 b.1 in
    let init = maybe_init_reader.takes b.0.1 c.0 c.1 in
    let assigns = many_takes (is_at (codes "assign")) (assign_at most) assign_tokens (IsAssign most) (λ _. Unit {0}) (assign_reader most) (suc (length c.0.1)) c.0.1 d.0 d.1 in
    let edge = (maybe_edge_reader most).takes d.0.1 f.0 f.1 in
    let end = ends_takes f.0.1 g.0 g.1 in
    let last : d.0.1 ≡ edge_tokens f.0.0 ++ Fixed (codes "endmodule") ∷ [] = edge.0 ∙ ap (λ r. edge_tokens f.0.0 ++ r) end in
    let fourth : c.0.1 ≡ flat_map assign_tokens d.0.0 ++ (edge_tokens f.0.0 ++ Fixed (codes "endmodule") ∷ []) = assigns.0 ∙ ap (λ r. flat_map assign_tokens d.0.0 ++ r) last in
    let third : b.0.1 ≡ init_tokens c.0.0 ++ (flat_map assign_tokens d.0.0 ++ (edge_tokens f.0.0 ++ Fixed (codes "endmodule") ∷ [])) = init.0 ∙ ap (λ r. init_tokens c.0.0 ++ r) fourth in
    let second : a.0.1 ≡ flat_map decl_tokens b.0.0 ++ (init_tokens c.0.0 ++ (flat_map assign_tokens d.0.0 ++ (edge_tokens f.0.0 ++ Fixed (codes "endmodule") ∷ []))) = decls.0 ∙ ap (λ r. flat_map decl_tokens b.0.0 ++ r) third in
    subst (TakesModule most ts) made (record {
      spelled = head.0 ∙ ap (λ r. head_tokens a.0.0 ++ r) second ∙ regroup a.0.0 (flat_map decl_tokens b.0.0 ++ (init_tokens c.0.0 ++ (flat_map assign_tokens d.0.0 ++ (edge_tokens f.0.0 ++ Fixed (codes "endmodule") ∷ []))));
      ranges = record { ports = head.1; decls = decls.1 };
      deep = omega (arith, greatest_within (λ (a : Assign). depth a.value) most d.0.0 assigns.1, edge_within most f.0.0 edge.1);
    })
  where
    regroup : (h : List ℕ × List Port) (r : List Token) → head_tokens h ++ r ≡ Fixed (codes "module") ∷ Named h.0 ∷ Fixed (codes "(") ∷ (ports_tokens h.1 ++ Fixed (codes ")") ∷ Fixed (codes ";") ∷ r)
    regroup h r = ap (λ t. Fixed (codes "module") ∷ Named h.0 ∷ Fixed (codes "(") ∷ t) (append_assoc (ports_tokens h.1) (Fixed (codes ")") ∷ Fixed (codes ";") ∷ []) r)

-- what stands after the declarations, after the init and after the assigns

abbrev last_tokens : Module → List Token
last_tokens m = edge_tokens m.edge ++ Fixed (codes "endmodule") ∷ []

abbrev assigns_tokens : Module → List Token
assigns_tokens m = flat_map assign_tokens m.assigns ++ last_tokens m

abbrev body_tokens : Module → List Token
body_tokens m = init_tokens m.init ++ assigns_tokens m

last_no_assign : (e : Option Edge) → is_at (codes "assign") (edge_tokens e ++ Fixed (codes "endmodule") ∷ []) ≡ false
last_no_assign None = refl
last_no_assign (Some e) = refl

last_no_init : (e : Option Edge) → NoInit (edge_tokens e ++ Fixed (codes "endmodule") ∷ [])
last_no_init None = refl
last_no_init (Some e) = refl

last_no_decl : (e : Option Edge) → declares (edge_tokens e ++ Fixed (codes "endmodule") ∷ []) ≡ false
last_no_decl None = refl
last_no_decl (Some e) = refl

assigns_no_init : (xs : List Assign) (e : Option Edge) → NoInit (flat_map assign_tokens xs ++ (edge_tokens e ++ Fixed (codes "endmodule") ∷ []))
assigns_no_init [] e = last_no_init e
assigns_no_init (a ∷ xs) e = refl

assigns_no_decl : (xs : List Assign) (e : Option Edge) → declares (flat_map assign_tokens xs ++ (edge_tokens e ++ Fixed (codes "endmodule") ∷ [])) ≡ false
assigns_no_decl [] e = last_no_decl e
assigns_no_decl (a ∷ xs) e = refl

body_no_decl : (i : Option Init) (xs : List Assign) (e : Option Edge) → declares (init_tokens i ++ (flat_map assign_tokens xs ++ (edge_tokens e ++ Fixed (codes "endmodule") ∷ []))) ≡ false
body_no_decl None xs e = assigns_no_decl xs e
body_no_decl (Some i) xs e = refl

pub module_again : (most : ℕ) (m : Module) → HasRanges m → module_depth m ≤ most → module_at most (module_tokens m) ≡ Some m
unfolding module_at ends_at
module_again most m ranges deep =
    let head : List ℕ × List Port = (m.name, m.ports) in
    let end : List Token = Fixed (codes "endmodule") ∷ [] in
    let after_head : List Token = flat_map decl_tokens m.decls ++ body_tokens m in
    ap (λ t. module_at most (Fixed (codes "module") ∷ Named m.name ∷ Fixed (codes "(") ∷ t)) (sym (append_assoc (ports_tokens m.ports) (Fixed (codes ")") ∷ Fixed (codes ";") ∷ []) after_head))
    ∙ bind_at (head_at (head_tokens head ++ after_head)) (λ head. declare head.1 >>= λ decls. maybe_init_at decls.1 >>= λ init. assign most init.1 >>= λ assigns. maybe_edge_at most assigns.1 >>= λ edge. ends_at edge.1 >>= λ end. Some (made_module head.0 decls.0 init.0 assigns.0 edge.0)) (head, after_head) (head_again head after_head ranges.ports)
    ∙ bind_at (declare after_head) (λ decls. maybe_init_at decls.1 >>= λ init. assign most init.1 >>= λ assigns. maybe_edge_at most assigns.1 >>= λ edge. ends_at edge.1 >>= λ end. Some (made_module head decls.0 init.0 assigns.0 edge.0)) (m.decls, body_tokens m)
    (all_again declares decl_at decl_tokens IsDecl (λ _. Unit {0}) decl_reader decl_opens (λ d r. tt) decl_some m.decls (body_tokens m) ranges.decls (body_no_decl m.init m.assigns m.edge) tt)
    ∙ bind_at (maybe_init_at (body_tokens m)) (λ init. assign most init.1 >>= λ assigns. maybe_edge_at most assigns.1 >>= λ edge. ends_at edge.1 >>= λ end. Some (made_module head m.decls init.0 assigns.0 edge.0)) (m.init, assigns_tokens m)
    (maybe_init_reader.again m.init (assigns_tokens m) tt (assigns_no_init m.assigns m.edge))
    ∙ bind_at (assign most (assigns_tokens m)) (λ assigns. maybe_edge_at most assigns.1 >>= λ edge. ends_at edge.1 >>= λ end. Some (made_module head m.decls m.init assigns.0 edge.0)) (m.assigns, last_tokens m)
    (all_again (is_at (codes "assign")) (assign_at most) assign_tokens (IsAssign most) (λ _. Unit {0}) (assign_reader most) (λ a r. refl) (λ a r. tt) (λ a. omega arith) m.assigns (last_tokens m) (each_within (λ (a : Assign). depth a.value) most m.assigns (omega arith)) (last_no_assign m.edge) tt)
    ∙ bind_at (maybe_edge_at most (last_tokens m)) (λ edge. ends_at edge.1 >>= λ end. Some (made_module head m.decls m.init m.assigns edge.0)) (m.edge, end)
    ((maybe_edge_reader most).again m.edge end (edge_deep most m.edge (omega arith)) refl)
