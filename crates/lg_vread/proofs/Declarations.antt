-- Ports, declarations and inits: what is read is spelled so, and what is spelled so is read again.
use Rattle.std.proofs.Common.{◌≡◌, ℕ, suc, ◌<◌, true, false, cond, leb, List, [], ◌∷◌, ◌++◌, length, Option, Some, None, refl, sym, ap, ◌∙◌, append_assoc, arith, inl, inr, subst}
use Rattle.std.specs.Prelude.{codes, IsTrue}
use Rattle.std.specs.List.{flat_map, AllByRecursion}
use Rattle.std.proofs.lemmas.Bool.{cond-true, cond-false}
use Rattle.std.proofs.lemmas.Option.{same_Some}
use Rattle.lg_vtree.specs.declared.module.Direction.{Direction}
use Rattle.lg_vtree.specs.declared.module.Direction.TheVariants.{Input, Output}
use Rattle.lg_vtree.specs.declared.module.Port.{Port}
use Rattle.lg_vtree.specs.declared.module.Decl.{Decl}
use Rattle.lg_vtree.specs.declared.module.Decl.TheVariants as decl
use Rattle.lg_vtree.specs.declared.module.Fill.{Fill}
use Rattle.lg_vtree.specs.declared.module.Word.{Word}
use Rattle.lg_vtree.specs.declared.module.Init.{Init}
use Rattle.lg_vtree.specs.declared.expr.Constant.{Constant}
use Rattle.lg_vtree.specs.Grammar.{Token, Fixed, Named, Number, Sized, is_high, range_tokens, direction_token, port_tokens, ports_tokens, decl_tokens, decl_range, fill_tokens, word_tokens, init_tokens}
use Rattle.lg_vread.specs.Reading.{◌>>=◌, is_at, tail, after, name_at, number_at, constant_at, after_number, many_at, high_at, range_at, direction_at, port_at, other_port_at, ports_at, wire_at, start_at, memory_at, reg_at, decl_at, declares, loop_start_at, loop_test_at, loop_step_at, filled_at, value_at, fill_at, word_at, goes_on, init_start_at, init_at, maybe_init_at}
use Rattle.lg_vread.proofs.Steps.{bind_some, bind_at, chosen, guarded, at_takes, after_takes, name_takes, number_takes, constant_takes, after_number_takes, part, Taken, IsReader, many_takes, all_again}
use Rattle.lg_vread.proofs.Exprs.{Follows}

-- ranges

abbrev pub IsHigh : Option ℕ → Type 0
IsHigh range = IsTrue (is_high range)

high_takes : (ts : List Token) (x : Option ℕ × List Token) → high_at ts ≡ Some x → Taken range_tokens IsHigh (Fixed (codes "[") ∷ ts) x
unfolding high_at
high_takes ts x e =
    let a0 = bind_some (number_at ts) (λ high. after (codes ":") high.1 >>= λ colon. after_number 0 colon >>= λ low. after (codes "]") low >>= λ end. cond (leb 1 high.0) (Some (Some high.0, end)) None) x e in
    let a1 = bind_some (after (codes ":") a0.0.1) (λ colon. after_number 0 colon >>= λ low. after (codes "]") low >>= λ end. cond (leb 1 a0.0.0) (Some (Some a0.0.0, end)) None) x a0.2 in
    let a2 = bind_some (after_number 0 a1.0) (λ low. after (codes "]") low >>= λ end. cond (leb 1 a0.0.0) (Some (Some a0.0.0, end)) None) x a1.2 in
    let a3 = bind_some (after (codes "]") a2.0) (λ end. cond (leb 1 a0.0.0) (Some (Some a0.0.0, end)) None) x a2.2 in
    let g = guarded (leb 1 a0.0.0) (Some a0.0.0, a3.0) x a3.2 in
    subst (Taken range_tokens IsHigh (Fixed (codes "[") ∷ ts)) g.1 (
      ap (λ r. Fixed (codes "[") ∷ r) (number_takes ts a0.0 a0.1 ∙ ap (λ r. Number a0.0.0 ∷ r) (after_takes (codes ":") a0.0.1 a1.0 a1.1 ∙ ap (λ r. Fixed (codes ":") ∷ r) (after_number_takes 0 a1.0 a2.0 a2.1 ∙ ap (λ r. Number 0 ∷ r) (after_takes (codes "]") a2.0 a3.0 a3.1)))),
      g.0,
    )

pub range_reader : IsReader range_at range_tokens IsHigh Follows
unfolding range_at high_at after_number
range_reader = record {
  takes = λ ts x e. elim (chosen (is_at (codes "[") ts) (high_at (tail ts)) (Some (None, ts)) (Some x) e) as (λ _. Taken range_tokens IsHigh ts x) [
    | inl w ↦ subst (λ r. Taken range_tokens IsHigh r x) (sym (at_takes (codes "[") ts w.0)) (high_takes (tail ts) x w.1)
    | inr w ↦ let made : (None, ts) ≡ x = cc w.1 in subst (Taken range_tokens IsHigh ts) made (refl, refl)
  ];
  again = λ range rest good next. again range rest good next;
}
  where
    again : (range : Option ℕ) (rest : List Token) → IsHigh range → Follows rest → range_at (range_tokens range ++ rest) ≡ Some (range, rest)
    again None rest good next = cond-false (is_at (codes "[") rest) (high_at (tail rest)) (Some (None, rest)) next
    again (Some high) rest good next = cond-true (leb 1 high) (Some (Some high, rest)) None good

-- ports

abbrev pub IsPort : Port → Type 0
IsPort p = IsHigh p.range

abbrev one_direction : Direction → List Token
one_direction d = direction_token d ∷ []

direction_takes : (ts : List Token) (x : Direction × List Token) → direction_at ts ≡ Some x → ts ≡ one_direction x.0 ++ x.1
unfolding direction_at
direction_takes ts x e = elim (chosen (is_at (codes "input") ts) (Some (Input, tail ts)) (after (codes "output") ts >>= λ rest. Some (Output, rest)) (Some x) e) as (λ _. ts ≡ one_direction x.0 ++ x.1) [
  | inl w ↦ let made : (Input, tail ts) ≡ x = cc w.1 in subst (λ (y : Direction × List Token). ts ≡ one_direction y.0 ++ y.1) made (at_takes (codes "input") ts w.0)
  | inr w ↦
      let a = bind_some (after (codes "output") ts) (λ rest. Some (Output, rest)) x w.1 in
      let made : (Output, a.0) ≡ x = cc a.2 in
      subst (λ (y : Direction × List Token). ts ≡ one_direction y.0 ++ y.1) made (after_takes (codes "output") ts a.0 a.1)
]

direction_again : (d : Direction) (rest : List Token) → direction_at (one_direction d ++ rest) ≡ Some (d, rest)
unfolding direction_at
direction_again Input rest = refl
direction_again Output rest = refl

port_takes : (ts : List Token) (x : Port × List Token) → port_at ts ≡ Some x → Taken port_tokens IsPort ts x
unfolding port_at
port_takes ts x e =
    let a0 = bind_some (direction_at ts) (λ direction. after (codes "wire") direction.1 >>= λ wire. range_at wire >>= λ range. name_at range.1 >>= λ name. Some (record { direction = direction.0; range = range.0; name = name.0 }, name.1)) x e in
    let t0 = direction_takes ts a0.0 a0.1 in
    let a1 = bind_some (after (codes "wire") a0.0.1) (λ wire. range_at wire >>= λ range. name_at range.1 >>= λ name. Some (record { direction = a0.0.0; range = range.0; name = name.0 }, name.1)) x a0.2 in
    let t1 = after_takes (codes "wire") a0.0.1 a1.0 a1.1 in
    let a2 = bind_some (range_at a1.0) (λ range. name_at range.1 >>= λ name. Some (record { direction = a0.0.0; range = range.0; name = name.0 }, name.1)) x a1.2 in
    let t2 = range_reader.takes a1.0 a2.0 a2.1 in
    let a3 = bind_some (name_at a2.0.1) (λ name. Some (record { direction = a0.0.0; range = a2.0.0; name = name.0 }, name.1)) x a2.2 in
    let t3 = name_takes a2.0.1 a3.0 a3.1 in
    let made : (record { direction = a0.0.0; range = a2.0.0; name = a3.0.0 }, a3.0.1) ≡ x = same_Some (record { direction = a0.0.0; range = a2.0.0; name = a3.0.0 }, a3.0.1) x a3.2 in
    subst (Taken port_tokens IsPort ts) made (t0 ∙ ap (λ r. (one_direction a0.0.0) ++ r) (t1 ∙ ap (λ r. Fixed (codes "wire") ∷ r) (part (range_tokens a2.0.0) (Named a3.0.0 ∷ []) a1.0 a2.0.1 a3.0.1 t2.0 (t3))), t2.1)

port_again : (p : Port) (rest : List Token) → IsPort p → port_at (port_tokens p ++ rest) ≡ Some (p, rest)
unfolding port_at
port_again p rest good =
    bind_at (direction_at ((one_direction p.direction) ++ ((Fixed (codes "wire") ∷ ((range_tokens p.range) ++ Named p.name ∷ [])) ++ rest))) (λ direction. after (codes "wire") direction.1 >>= λ wire. range_at wire >>= λ range. name_at range.1 >>= λ name. Some (record { direction = direction.0; range = range.0; name = name.0 }, name.1)) (p.direction, ((Fixed (codes "wire") ∷ ((range_tokens p.range) ++ Named p.name ∷ [])) ++ rest)) (direction_again p.direction ((Fixed (codes "wire") ∷ ((range_tokens p.range) ++ Named p.name ∷ [])) ++ rest))
    ∙ ap (λ ts. range_at ts >>= (λ range. name_at range.1 >>= λ name. Some (record { direction = p.direction; range = range.0; name = name.0 }, name.1))) (append_assoc (range_tokens p.range) (Named p.name ∷ []) rest)
    ∙ bind_at (range_at ((range_tokens p.range) ++ ((Named p.name ∷ []) ++ rest))) (λ range. name_at range.1 >>= λ name. Some (record { direction = p.direction; range = range.0; name = name.0 }, name.1)) (p.range, ((Named p.name ∷ []) ++ rest)) (range_reader.again p.range ((Named p.name ∷ []) ++ rest) good refl)

port_reader : IsReader port_at port_tokens IsPort (λ _. Unit {0})
port_reader = record { takes = port_takes; again = λ p rest good next. port_again p rest good }

pub other_port_reader : IsReader other_port_at (λ p. Fixed (codes ",") ∷ port_tokens p) IsPort (λ _. Unit {0})
unfolding other_port_at
other_port_reader = record {
  takes = λ ts x e.
      let a = bind_some (after (codes ",") ts) port_at x e in
      let first = port_takes a.0 x a.2 in
      (after_takes (codes ",") ts a.0 a.1 ∙ ap (λ r. Fixed (codes ",") ∷ r) first.0, first.1);
  again = λ p rest good next. port_again p rest good;
}

abbrev others_tokens : List Port → List Token
others_tokens more = flat_map (λ (p : Port). Fixed (codes ",") ∷ port_tokens p) more

-- before the end of the ports
abbrev pub Closes : List Token → Type 0
Closes ts = is_at (codes ")") ts ≡ true

closes_stop : (ts : List Token) → Closes ts → is_at (codes ",") ts ≡ false
closes_stop ts e = ap (is_at (codes ",")) (at_takes (codes ")") ts e)

abbrev more_ports : List Token → Option (List Port × List Token)
more_ports ts = many_at (is_at (codes ",")) other_port_at (suc (length ts)) ts

not_closed : (d : Direction) (r : List Token) → is_at (codes ")") (direction_token d ∷ r) ≡ false
not_closed Input r = refl
not_closed Output r = refl

pub ports_reader : IsReader ports_at ports_tokens (AllByRecursion IsPort) Closes
unfolding ports_at
ports_reader = record {
  takes = λ ts x e. elim (chosen (is_at (codes ")") ts) (Some ([], ts)) (port_at ts >>= λ first. more_ports first.1 >>= λ more. Some (first.0 ∷ more.0, more.1)) (Some x) e) as (λ _. Taken ports_tokens (AllByRecursion IsPort) ts x) [
    | inl w ↦ let made : ([], ts) ≡ x = cc w.1 in subst (Taken ports_tokens (AllByRecursion IsPort) ts) made (refl, tt)
    | inr w ↦
        let a = bind_some (port_at ts) (λ first. more_ports first.1 >>= λ more. Some (first.0 ∷ more.0, more.1)) x w.1 in
        let b = bind_some (more_ports a.0.1) (λ more. Some (a.0.0 ∷ more.0, more.1)) x a.2 in
        let made : (a.0.0 ∷ b.0.0, b.0.1) ≡ x = cc b.2 in
        let first = port_takes ts a.0 a.1 in
        let more = many_takes (is_at (codes ",")) other_port_at (λ p. Fixed (codes ",") ∷ port_tokens p) IsPort (λ _. Unit {0}) other_port_reader (suc (length a.0.1)) a.0.1 b.0 b.1 in
        subst (Taken ports_tokens (AllByRecursion IsPort) ts) made (part (port_tokens a.0.0) (others_tokens b.0.0) ts a.0.1 b.0.1 first.0 more.0, (first.1, more.1))
  ];
  again = again;
}
  where
    again : (ps : List Port) (rest : List Token) → AllByRecursion IsPort ps → Closes rest → ports_at (ports_tokens ps ++ rest) ≡ Some (ps, rest)
    again [] rest good next = cond-true (is_at (codes ")") rest) (Some ([], rest)) (port_at rest >>= λ first. more_ports first.1 >>= λ more. Some (first.0 ∷ more.0, more.1)) next
    again (p ∷ ps) rest good next =
        let behind : List Token = others_tokens ps ++ rest in
        let start : List Token = port_tokens p ++ behind in
        ap ports_at (append_assoc (port_tokens p) (others_tokens ps) rest)
        ∙ cond-false (is_at (codes ")") start) (Some ([], start)) (port_at start >>= λ first. more_ports first.1 >>= λ more. Some (first.0 ∷ more.0, more.1)) (not_closed p.direction (tail start))
        ∙ bind_at (port_at start) (λ first. more_ports first.1 >>= λ more. Some (first.0 ∷ more.0, more.1)) (p, behind) (port_again p behind good.0)
        ∙ bind_at (more_ports behind) (λ more. Some (p ∷ more.0, more.1)) (ps, rest)
        (all_again (is_at (codes ",")) other_port_at (λ p. Fixed (codes ",") ∷ port_tokens p) IsPort (λ _. Unit {0}) other_port_reader (λ p r. refl) (λ p r. tt) (λ p. omega arith) ps rest good.1 (closes_stop rest next) tt)

-- declarations

abbrev pub IsDecl : Decl → Type 0
IsDecl d = IsHigh (decl_range d)

abbrev after_wire : List Token → List Token
after_wire ts = Fixed (codes "wire") ∷ ts

wire_takes : (ts : List Token) (x : Decl × List Token) → wire_at ts ≡ Some x → Taken decl_tokens IsDecl (after_wire ts) x
unfolding wire_at
wire_takes ts x e =
    let a0 = bind_some (range_at ts) (λ range. name_at range.1 >>= λ name. after (codes ";") name.1 >>= λ end. Some (decl.Wire range.0 name.0, end)) x e in
    let t0 = range_reader.takes ts a0.0 a0.1 in
    let a1 = bind_some (name_at a0.0.1) (λ name. after (codes ";") name.1 >>= λ end. Some (decl.Wire a0.0.0 name.0, end)) x a0.2 in
    let t1 = name_takes a0.0.1 a1.0 a1.1 in
    let a2 = bind_some (after (codes ";") a1.0.1) (λ end. Some (decl.Wire a0.0.0 a1.0.0, end)) x a1.2 in
    let t2 = after_takes (codes ";") a1.0.1 a2.0 a2.1 in
    let made : (decl.Wire a0.0.0 a1.0.0, a2.0) ≡ x = same_Some (decl.Wire a0.0.0 a1.0.0, a2.0) x a2.2 in
    subst (Taken decl_tokens IsDecl (after_wire ts)) made (ap (λ r. after_wire r) (part (range_tokens a0.0.0) (Named a1.0.0 ∷ Fixed (codes ";") ∷ []) ts a0.0.1 a2.0 t0.0 (t1 ∙ ap (λ r. Named a1.0.0 ∷ r) (t2))), t0.1)

wire_again : (range : Option ℕ) (name : List ℕ) (rest : List Token) → IsHigh range → wire_at (tail (decl_tokens (decl.Wire range name) ++ rest)) ≡ Some (decl.Wire range name, rest)
unfolding wire_at
wire_again range name rest good =
    ap (λ ts. range_at ts >>= (λ range. name_at range.1 >>= λ name. after (codes ";") name.1 >>= λ end. Some (decl.Wire range.0 name.0, end))) (append_assoc (range_tokens range) (Named name ∷ Fixed (codes ";") ∷ []) rest)
    ∙ bind_at (range_at ((range_tokens range) ++ ((Named name ∷ Fixed (codes ";") ∷ []) ++ rest))) (λ range. name_at range.1 >>= λ name. after (codes ";") name.1 >>= λ end. Some (decl.Wire range.0 name.0, end)) (range, ((Named name ∷ Fixed (codes ";") ∷ []) ++ rest)) (range_reader.again range ((Named name ∷ Fixed (codes ";") ∷ []) ++ rest) good refl)

abbrev after_equals : List Token → List Token
after_equals ts = Fixed (codes "=") ∷ ts

abbrev after_reg : Option ℕ → List ℕ → List Token → List Token
after_reg range name ts = Fixed (codes "reg") ∷ (range_tokens range ++ Named name ∷ ts)

reg_spelled : (range : Option ℕ) (name : List ℕ) (x ts rest : List Token) → ts ≡ x ++ rest → after_reg range name ts ≡ after_reg range name x ++ rest
reg_spelled range name x ts rest e = ap (λ r. Fixed (codes "reg") ∷ r) (part (range_tokens range) (Named name ∷ x) (range_tokens range ++ Named name ∷ ts) (Named name ∷ ts) rest refl (ap (λ r. Named name ∷ r) e))

start_takes : (range : Option ℕ) (name : List ℕ) → IsHigh range → (ts : List Token) (x : Decl × List Token) → start_at range name ts ≡ Some x → Taken decl_tokens IsDecl (after_reg range name (after_equals ts)) x
unfolding start_at
start_takes range name good ts x e =
    let a0 = bind_some (constant_at ts) (λ start. after (codes ";") start.1 >>= λ end. Some (decl.Reg range name start.0, end)) x e in
    let t0 = constant_takes ts a0.0 a0.1 in
    let a1 = bind_some (after (codes ";") a0.0.1) (λ end. Some (decl.Reg range name a0.0.0, end)) x a0.2 in
    let t1 = after_takes (codes ";") a0.0.1 a1.0 a1.1 in
    let made : (decl.Reg range name a0.0.0, a1.0) ≡ x = same_Some (decl.Reg range name a0.0.0, a1.0) x a1.2 in
    subst (Taken decl_tokens IsDecl (after_reg range name (after_equals ts))) made (reg_spelled range name (after_equals (Sized a0.0.0 ∷ Fixed (codes ";") ∷ [])) (after_equals ts) a1.0 (ap (λ r. after_equals r) (t0 ∙ ap (λ r. Sized a0.0.0 ∷ r) (t1))), good)

memory_takes : (range : Option ℕ) (name : List ℕ) → IsHigh range → (ts : List Token) (x : Decl × List Token) → memory_at range name ts ≡ Some x → Taken decl_tokens IsDecl (after_reg range name ts) x
unfolding memory_at
memory_takes range name good ts x e =
    let a0 = bind_some (after (codes "[") ts) (λ bracket. after_number 0 bracket >>= λ low. after (codes ":") low >>= λ colon. number_at colon >>= λ last. after (codes "]") last.1 >>= λ close. after (codes ";") close >>= λ end. Some (decl.Memory range name last.0, end)) x e in
    let t0 = after_takes (codes "[") ts a0.0 a0.1 in
    let a1 = bind_some (after_number 0 a0.0) (λ low. after (codes ":") low >>= λ colon. number_at colon >>= λ last. after (codes "]") last.1 >>= λ close. after (codes ";") close >>= λ end. Some (decl.Memory range name last.0, end)) x a0.2 in
    let t1 = after_number_takes 0 a0.0 a1.0 a1.1 in
    let a2 = bind_some (after (codes ":") a1.0) (λ colon. number_at colon >>= λ last. after (codes "]") last.1 >>= λ close. after (codes ";") close >>= λ end. Some (decl.Memory range name last.0, end)) x a1.2 in
    let t2 = after_takes (codes ":") a1.0 a2.0 a2.1 in
    let a3 = bind_some (number_at a2.0) (λ last. after (codes "]") last.1 >>= λ close. after (codes ";") close >>= λ end. Some (decl.Memory range name last.0, end)) x a2.2 in
    let t3 = number_takes a2.0 a3.0 a3.1 in
    let a4 = bind_some (after (codes "]") a3.0.1) (λ close. after (codes ";") close >>= λ end. Some (decl.Memory range name a3.0.0, end)) x a3.2 in
    let t4 = after_takes (codes "]") a3.0.1 a4.0 a4.1 in
    let a5 = bind_some (after (codes ";") a4.0) (λ end. Some (decl.Memory range name a3.0.0, end)) x a4.2 in
    let t5 = after_takes (codes ";") a4.0 a5.0 a5.1 in
    let made : (decl.Memory range name a3.0.0, a5.0) ≡ x = same_Some (decl.Memory range name a3.0.0, a5.0) x a5.2 in
    subst (Taken decl_tokens IsDecl (after_reg range name ts)) made (reg_spelled range name (Fixed (codes "[") ∷ Number 0 ∷ Fixed (codes ":") ∷ Number a3.0.0 ∷ Fixed (codes "]") ∷ Fixed (codes ";") ∷ []) ts a5.0 (t0 ∙ ap (λ r. Fixed (codes "[") ∷ r) (t1 ∙ ap (λ r. Number 0 ∷ r) (t2 ∙ ap (λ r. Fixed (codes ":") ∷ r) (t3 ∙ ap (λ r. Number a3.0.0 ∷ r) (t4 ∙ ap (λ r. Fixed (codes "]") ∷ r) (t5)))))), good)

abbrev start_or_memory : Option ℕ → List ℕ × List Token → Option (Decl × List Token)
start_or_memory range name = cond (is_at (codes "=") name.1) (start_at range name.0 (tail name.1)) (memory_at range name.0 name.1)

reg_takes : (ts : List Token) (x : Decl × List Token) → reg_at ts ≡ Some x → Taken decl_tokens IsDecl (Fixed (codes "reg") ∷ ts) x
unfolding reg_at
reg_takes ts x e =
    let a = bind_some (range_at ts) (λ range. name_at range.1 >>= start_or_memory range.0) x e in
    let b = bind_some (name_at a.0.1) (start_or_memory a.0.0) x a.2 in
    let first = range_reader.takes ts a.0 a.1 in
    let named : ts ≡ range_tokens a.0.0 ++ Named b.0.0 ∷ b.0.1 = first.0 ∙ ap (λ r. range_tokens a.0.0 ++ r) (name_takes a.0.1 b.0 b.1) in
    elim (chosen (is_at (codes "=") b.0.1) (start_at a.0.0 b.0.0 (tail b.0.1)) (memory_at a.0.0 b.0.0 b.0.1) (Some x) b.2) as (λ _. Taken decl_tokens IsDecl (Fixed (codes "reg") ∷ ts) x) [
      | inl w ↦
          subst (λ r. Taken decl_tokens IsDecl (Fixed (codes "reg") ∷ r) x) (sym (named ∙ ap (λ r. range_tokens a.0.0 ++ Named b.0.0 ∷ r) (at_takes (codes "=") b.0.1 w.0))) (start_takes a.0.0 b.0.0 first.1 (tail b.0.1) x w.1)
      | inr w ↦ subst (λ r. Taken decl_tokens IsDecl (Fixed (codes "reg") ∷ r) x) (sym named) (memory_takes a.0.0 b.0.0 first.1 b.0.1 x w.1)
    ]

reg_again : (range : Option ℕ) (name : List ℕ) (start : Constant) (rest : List Token) → IsHigh range → decl_at (decl_tokens (decl.Reg range name start) ++ rest) ≡ Some (decl.Reg range name start, rest)
unfolding decl_at reg_at start_at
reg_again range name start rest good =
    let behind : List Token = Named name ∷ Fixed (codes "=") ∷ Sized start ∷ Fixed (codes ";") ∷ rest in
    ap (λ ts. reg_at ts) (append_assoc (range_tokens range) (Named name ∷ Fixed (codes "=") ∷ Sized start ∷ Fixed (codes ";") ∷ []) rest)
    ∙ bind_at (range_at (range_tokens range ++ behind)) (λ range. name_at range.1 >>= start_or_memory range.0) (range, behind) (range_reader.again range behind good refl)

memory_again : (range : Option ℕ) (name : List ℕ) (last : ℕ) (rest : List Token) → IsHigh range → decl_at (decl_tokens (decl.Memory range name last) ++ rest) ≡ Some (decl.Memory range name last, rest)
unfolding decl_at reg_at memory_at after_number
memory_again range name last rest good =
    let behind : List Token = Named name ∷ Fixed (codes "[") ∷ Number 0 ∷ Fixed (codes ":") ∷ Number last ∷ Fixed (codes "]") ∷ Fixed (codes ";") ∷ rest in
    ap (λ ts. reg_at ts) (append_assoc (range_tokens range) (Named name ∷ Fixed (codes "[") ∷ Number 0 ∷ Fixed (codes ":") ∷ Number last ∷ Fixed (codes "]") ∷ Fixed (codes ";") ∷ []) rest)
    ∙ bind_at (range_at (range_tokens range ++ behind)) (λ range. name_at range.1 >>= start_or_memory range.0) (range, behind) (range_reader.again range behind good refl)

pub decl_reader : IsReader decl_at decl_tokens IsDecl (λ _. Unit {0})
unfolding decl_at
decl_reader = record {
  takes = λ ts x e. elim (chosen (is_at (codes "wire") ts) (wire_at (tail ts)) (after (codes "reg") ts >>= reg_at) (Some x) e) as (λ _. Taken decl_tokens IsDecl ts x) [
    | inl w ↦ subst (λ r. Taken decl_tokens IsDecl r x) (sym (at_takes (codes "wire") ts w.0)) (wire_takes (tail ts) x w.1)
    | inr w ↦
        let a = bind_some (after (codes "reg") ts) reg_at x w.1 in
        subst (λ r. Taken decl_tokens IsDecl r x) (sym (after_takes (codes "reg") ts a.0 a.1)) (reg_takes a.0 x a.2)
  ];
  again = again;
}
  where
    again : (d : Decl) (rest : List Token) → IsDecl d → Unit {0} → decl_at (decl_tokens d ++ rest) ≡ Some (d, rest)
    again (decl.Wire range name) rest good next = wire_again range name rest good
    again (decl.Reg range name start) rest good next = reg_again range name start rest good
    again (decl.Memory range name last) rest good next = memory_again range name last rest good

pub decl_opens : (d : Decl) (r : List Token) → declares (decl_tokens d ++ r) ≡ true
decl_opens (decl.Wire range name) r = refl
decl_opens (decl.Reg range name start) r = refl
decl_opens (decl.Memory range name last) r = refl

pub decl_some : (d : Decl) → 0 < length (decl_tokens d)
decl_some (decl.Wire range name) = omega arith
decl_some (decl.Reg range name start) = omega arith
decl_some (decl.Memory range name last) = omega arith

-- inits

abbrev loop_start : List Token
loop_start = Fixed (codes "for") ∷ Fixed (codes "(") ∷ Fixed (codes "k") ∷ Fixed (codes "=") ∷ Number 0 ∷ Fixed (codes ";") ∷ []

abbrev loop_test : ℕ → List Token
loop_test count = Fixed (codes "k") ∷ Fixed (codes "<") ∷ Number count ∷ Fixed (codes ";") ∷ []

abbrev loop_step : List Token
loop_step = Fixed (codes "k") ∷ Fixed (codes "=") ∷ Fixed (codes "k") ∷ Fixed (codes "+") ∷ Number 1 ∷ Fixed (codes ")") ∷ []

abbrev filled : List ℕ → List Token
filled name = Named name ∷ Fixed (codes "[") ∷ Fixed (codes "k") ∷ Fixed (codes "]") ∷ []

abbrev valued : Constant → List Token
valued value = Fixed (codes "=") ∷ Sized value ∷ Fixed (codes ";") ∷ []

abbrev init_start : List Token
init_start = Fixed (codes "k") ∷ Fixed (codes ";") ∷ Fixed (codes "initial") ∷ Fixed (codes "begin") ∷ []

abbrev some_init_tokens : Init → List Token
some_init_tokens i = init_tokens (Some i)

abbrev after_integer : List Token → List Token
after_integer ts = Fixed (codes "integer") ∷ ts

loop_start_takes : (ts rest : List Token) → loop_start_at ts ≡ Some rest → ts ≡ loop_start ++ rest
unfolding loop_start_at
loop_start_takes ts rest e =
    let a0 = bind_some (after (codes "for") ts) (λ word. after (codes "(") word >>= λ paren. after (codes "k") paren >>= λ k. after (codes "=") k >>= λ equals. after_number 0 equals >>= λ start. after (codes ";") start) rest e in
    let a1 = bind_some (after (codes "(") a0.0) (λ paren. after (codes "k") paren >>= λ k. after (codes "=") k >>= λ equals. after_number 0 equals >>= λ start. after (codes ";") start) rest a0.2 in
    let a2 = bind_some (after (codes "k") a1.0) (λ k. after (codes "=") k >>= λ equals. after_number 0 equals >>= λ start. after (codes ";") start) rest a1.2 in
    let a3 = bind_some (after (codes "=") a2.0) (λ equals. after_number 0 equals >>= λ start. after (codes ";") start) rest a2.2 in
    let a4 = bind_some (after_number 0 a3.0) (λ start. after (codes ";") start) rest a3.2 in
    after_takes (codes "for") ts a0.0 a0.1 ∙ ap (λ r. Fixed (codes "for") ∷ r) (after_takes (codes "(") a0.0 a1.0 a1.1 ∙ ap (λ r. Fixed (codes "(") ∷ r) (after_takes (codes "k") a1.0 a2.0 a2.1 ∙ ap (λ r. Fixed (codes "k") ∷ r) (after_takes (codes "=") a2.0 a3.0 a3.1 ∙ ap (λ r. Fixed (codes "=") ∷ r) (after_number_takes 0 a3.0 a4.0 a4.1 ∙ ap (λ r. Number 0 ∷ r) (after_takes (codes ";") a4.0 rest a4.2)))))

loop_test_takes : (ts : List Token) (x : ℕ × List Token) → loop_test_at ts ≡ Some x → ts ≡ loop_test x.0 ++ x.1
unfolding loop_test_at
loop_test_takes ts x e =
    let a0 = bind_some (after (codes "k") ts) (λ k. after (codes "<") k >>= λ less. number_at less >>= λ count. after (codes ";") count.1 >>= λ end. Some (count.0, end)) x e in
    let t0 = after_takes (codes "k") ts a0.0 a0.1 in
    let a1 = bind_some (after (codes "<") a0.0) (λ less. number_at less >>= λ count. after (codes ";") count.1 >>= λ end. Some (count.0, end)) x a0.2 in
    let t1 = after_takes (codes "<") a0.0 a1.0 a1.1 in
    let a2 = bind_some (number_at a1.0) (λ count. after (codes ";") count.1 >>= λ end. Some (count.0, end)) x a1.2 in
    let t2 = number_takes a1.0 a2.0 a2.1 in
    let a3 = bind_some (after (codes ";") a2.0.1) (λ end. Some (a2.0.0, end)) x a2.2 in
    let t3 = after_takes (codes ";") a2.0.1 a3.0 a3.1 in
    let made : (a2.0.0, a3.0) ≡ x = same_Some (a2.0.0, a3.0) x a3.2 in
    subst (λ y. ts ≡ loop_test y.0 ++ y.1) made (t0 ∙ ap (λ r. Fixed (codes "k") ∷ r) (t1 ∙ ap (λ r. Fixed (codes "<") ∷ r) (t2 ∙ ap (λ r. Number a2.0.0 ∷ r) (t3))))

loop_step_takes : (ts rest : List Token) → loop_step_at ts ≡ Some rest → ts ≡ loop_step ++ rest
unfolding loop_step_at
loop_step_takes ts rest e =
    let a0 = bind_some (after (codes "k") ts) (λ k. after (codes "=") k >>= λ equals. after (codes "k") equals >>= λ again. after (codes "+") again >>= λ plus. after_number 1 plus >>= λ step. after (codes ")") step) rest e in
    let a1 = bind_some (after (codes "=") a0.0) (λ equals. after (codes "k") equals >>= λ again. after (codes "+") again >>= λ plus. after_number 1 plus >>= λ step. after (codes ")") step) rest a0.2 in
    let a2 = bind_some (after (codes "k") a1.0) (λ again. after (codes "+") again >>= λ plus. after_number 1 plus >>= λ step. after (codes ")") step) rest a1.2 in
    let a3 = bind_some (after (codes "+") a2.0) (λ plus. after_number 1 plus >>= λ step. after (codes ")") step) rest a2.2 in
    let a4 = bind_some (after_number 1 a3.0) (λ step. after (codes ")") step) rest a3.2 in
    after_takes (codes "k") ts a0.0 a0.1 ∙ ap (λ r. Fixed (codes "k") ∷ r) (after_takes (codes "=") a0.0 a1.0 a1.1 ∙ ap (λ r. Fixed (codes "=") ∷ r) (after_takes (codes "k") a1.0 a2.0 a2.1 ∙ ap (λ r. Fixed (codes "k") ∷ r) (after_takes (codes "+") a2.0 a3.0 a3.1 ∙ ap (λ r. Fixed (codes "+") ∷ r) (after_number_takes 1 a3.0 a4.0 a4.1 ∙ ap (λ r. Number 1 ∷ r) (after_takes (codes ")") a4.0 rest a4.2)))))

filled_takes : (ts : List Token) (x : List ℕ × List Token) → filled_at ts ≡ Some x → ts ≡ filled x.0 ++ x.1
unfolding filled_at
filled_takes ts x e =
    let a0 = bind_some (name_at ts) (λ name. after (codes "[") name.1 >>= λ bracket. after (codes "k") bracket >>= λ k. after (codes "]") k >>= λ close. Some (name.0, close)) x e in
    let t0 = name_takes ts a0.0 a0.1 in
    let a1 = bind_some (after (codes "[") a0.0.1) (λ bracket. after (codes "k") bracket >>= λ k. after (codes "]") k >>= λ close. Some (a0.0.0, close)) x a0.2 in
    let t1 = after_takes (codes "[") a0.0.1 a1.0 a1.1 in
    let a2 = bind_some (after (codes "k") a1.0) (λ k. after (codes "]") k >>= λ close. Some (a0.0.0, close)) x a1.2 in
    let t2 = after_takes (codes "k") a1.0 a2.0 a2.1 in
    let a3 = bind_some (after (codes "]") a2.0) (λ close. Some (a0.0.0, close)) x a2.2 in
    let t3 = after_takes (codes "]") a2.0 a3.0 a3.1 in
    let made : (a0.0.0, a3.0) ≡ x = same_Some (a0.0.0, a3.0) x a3.2 in
    subst (λ y. ts ≡ filled y.0 ++ y.1) made (t0 ∙ ap (λ r. Named a0.0.0 ∷ r) (t1 ∙ ap (λ r. Fixed (codes "[") ∷ r) (t2 ∙ ap (λ r. Fixed (codes "k") ∷ r) (t3))))

value_takes : (ts : List Token) (x : Constant × List Token) → value_at ts ≡ Some x → ts ≡ valued x.0 ++ x.1
unfolding value_at
value_takes ts x e =
    let a0 = bind_some (after (codes "=") ts) (λ equals. constant_at equals >>= λ value. after (codes ";") value.1 >>= λ end. Some (value.0, end)) x e in
    let t0 = after_takes (codes "=") ts a0.0 a0.1 in
    let a1 = bind_some (constant_at a0.0) (λ value. after (codes ";") value.1 >>= λ end. Some (value.0, end)) x a0.2 in
    let t1 = constant_takes a0.0 a1.0 a1.1 in
    let a2 = bind_some (after (codes ";") a1.0.1) (λ end. Some (a1.0.0, end)) x a1.2 in
    let t2 = after_takes (codes ";") a1.0.1 a2.0 a2.1 in
    let made : (a1.0.0, a2.0) ≡ x = same_Some (a1.0.0, a2.0) x a2.2 in
    subst (λ y. ts ≡ valued y.0 ++ y.1) made (t0 ∙ ap (λ r. Fixed (codes "=") ∷ r) (t1 ∙ ap (λ r. Sized a1.0.0 ∷ r) (t2)))

fill_takes : (ts : List Token) (x : Fill × List Token) → fill_at ts ≡ Some x → Taken fill_tokens (λ _. Unit {0}) ts x
unfolding fill_at
fill_takes ts x e =
    let a0 = bind_some (loop_start_at ts) (λ start. loop_test_at start >>= λ count. loop_step_at count.1 >>= λ step. filled_at step >>= λ name. value_at name.1 >>= λ value. Some (record { name = name.0; count = count.0; value = value.0 }, value.1)) x e in
    let t0 = loop_start_takes ts a0.0 a0.1 in
    let a1 = bind_some (loop_test_at a0.0) (λ count. loop_step_at count.1 >>= λ step. filled_at step >>= λ name. value_at name.1 >>= λ value. Some (record { name = name.0; count = count.0; value = value.0 }, value.1)) x a0.2 in
    let t1 = loop_test_takes a0.0 a1.0 a1.1 in
    let a2 = bind_some (loop_step_at a1.0.1) (λ step. filled_at step >>= λ name. value_at name.1 >>= λ value. Some (record { name = name.0; count = a1.0.0; value = value.0 }, value.1)) x a1.2 in
    let t2 = loop_step_takes a1.0.1 a2.0 a2.1 in
    let a3 = bind_some (filled_at a2.0) (λ name. value_at name.1 >>= λ value. Some (record { name = name.0; count = a1.0.0; value = value.0 }, value.1)) x a2.2 in
    let t3 = filled_takes a2.0 a3.0 a3.1 in
    let a4 = bind_some (value_at a3.0.1) (λ value. Some (record { name = a3.0.0; count = a1.0.0; value = value.0 }, value.1)) x a3.2 in
    let t4 = value_takes a3.0.1 a4.0 a4.1 in
    let made : (record { name = a3.0.0; count = a1.0.0; value = a4.0.0 }, a4.0.1) ≡ x = same_Some (record { name = a3.0.0; count = a1.0.0; value = a4.0.0 }, a4.0.1) x a4.2 in
    subst (Taken fill_tokens (λ _. Unit {0}) ts) made (t0 ∙ ap (λ r. loop_start ++ r) (t1 ∙ ap (λ r. (loop_test a1.0.0) ++ r) (t2 ∙ ap (λ r. loop_step ++ r) (t3 ∙ ap (λ r. (filled a3.0.0) ++ r) (t4)))), tt)

word_takes : (ts : List Token) (x : Word × List Token) → word_at ts ≡ Some x → Taken word_tokens (λ _. Unit {0}) ts x
unfolding word_at
word_takes ts x e =
    let a0 = bind_some (name_at ts) (λ name. after (codes "[") name.1 >>= λ bracket. number_at bracket >>= λ address. after (codes "]") address.1 >>= λ close. value_at close >>= λ value. Some (record { name = name.0; address = address.0; value = value.0 }, value.1)) x e in
    let t0 = name_takes ts a0.0 a0.1 in
    let a1 = bind_some (after (codes "[") a0.0.1) (λ bracket. number_at bracket >>= λ address. after (codes "]") address.1 >>= λ close. value_at close >>= λ value. Some (record { name = a0.0.0; address = address.0; value = value.0 }, value.1)) x a0.2 in
    let t1 = after_takes (codes "[") a0.0.1 a1.0 a1.1 in
    let a2 = bind_some (number_at a1.0) (λ address. after (codes "]") address.1 >>= λ close. value_at close >>= λ value. Some (record { name = a0.0.0; address = address.0; value = value.0 }, value.1)) x a1.2 in
    let t2 = number_takes a1.0 a2.0 a2.1 in
    let a3 = bind_some (after (codes "]") a2.0.1) (λ close. value_at close >>= λ value. Some (record { name = a0.0.0; address = a2.0.0; value = value.0 }, value.1)) x a2.2 in
    let t3 = after_takes (codes "]") a2.0.1 a3.0 a3.1 in
    let a4 = bind_some (value_at a3.0) (λ value. Some (record { name = a0.0.0; address = a2.0.0; value = value.0 }, value.1)) x a3.2 in
    let t4 = value_takes a3.0 a4.0 a4.1 in
    let made : (record { name = a0.0.0; address = a2.0.0; value = a4.0.0 }, a4.0.1) ≡ x = same_Some (record { name = a0.0.0; address = a2.0.0; value = a4.0.0 }, a4.0.1) x a4.2 in
    subst (Taken word_tokens (λ _. Unit {0}) ts) made (t0 ∙ ap (λ r. Named a0.0.0 ∷ r) (t1 ∙ ap (λ r. Fixed (codes "[") ∷ r) (t2 ∙ ap (λ r. Number a2.0.0 ∷ r) (t3 ∙ ap (λ r. Fixed (codes "]") ∷ r) (t4)))), tt)

init_start_takes : (ts rest : List Token) → init_start_at ts ≡ Some rest → ts ≡ init_start ++ rest
unfolding init_start_at
init_start_takes ts rest e =
    let a0 = bind_some (after (codes "k") ts) (λ k. after (codes ";") k >>= λ end. after (codes "initial") end >>= λ initial. after (codes "begin") initial) rest e in
    let a1 = bind_some (after (codes ";") a0.0) (λ end. after (codes "initial") end >>= λ initial. after (codes "begin") initial) rest a0.2 in
    let a2 = bind_some (after (codes "initial") a1.0) (λ initial. after (codes "begin") initial) rest a1.2 in
    after_takes (codes "k") ts a0.0 a0.1 ∙ ap (λ r. Fixed (codes "k") ∷ r) (after_takes (codes ";") a0.0 a1.0 a1.1 ∙ ap (λ r. Fixed (codes ";") ∷ r) (after_takes (codes "initial") a1.0 a2.0 a2.1 ∙ ap (λ r. Fixed (codes "initial") ∷ r) (after_takes (codes "begin") a2.0 rest a2.2)))

fill_again : (f : Fill) (rest : List Token) → fill_at (fill_tokens f ++ rest) ≡ Some (f, rest)
unfolding fill_at loop_start_at loop_test_at loop_step_at filled_at value_at after_number
fill_again f rest = refl

word_again : (w : Word) (rest : List Token) → word_at (word_tokens w ++ rest) ≡ Some (w, rest)
unfolding word_at value_at
word_again w rest = refl

pub fill_reader : IsReader fill_at fill_tokens (λ _. Unit {0}) (λ _. Unit {0})
fill_reader = record { takes = fill_takes; again = λ f rest good next. fill_again f rest }

pub word_reader : IsReader word_at word_tokens (λ _. Unit {0}) (λ _. Unit {0})
word_reader = record { takes = word_takes; again = λ w rest good next. word_again w rest }

anything : {A : Type 0} (xs : List A) → AllByRecursion (λ (x : A). Unit {0}) xs
anything [] = tt
anything (x ∷ xs) = (tt, anything xs)

fills_take : (n : ℕ) (ts : List Token) (x : List Fill × List Token) → many_at (is_at (codes "for")) fill_at n ts ≡ Some x → Taken (flat_map fill_tokens) (AllByRecursion (λ _. Unit {0})) ts x
fills_take = many_takes (is_at (codes "for")) fill_at fill_tokens (λ _. Unit {0}) (λ _. Unit {0}) fill_reader

words_take : (n : ℕ) (ts : List Token) (x : List Word × List Token) → many_at goes_on word_at n ts ≡ Some x → Taken (flat_map word_tokens) (AllByRecursion (λ _. Unit {0})) ts x
words_take = many_takes goes_on word_at word_tokens (λ _. Unit {0}) (λ _. Unit {0}) word_reader

fills_again : (xs : List Fill) (rest : List Token) → is_at (codes "for") rest ≡ false → many_at (is_at (codes "for")) fill_at (suc (length (flat_map fill_tokens xs ++ rest))) (flat_map fill_tokens xs ++ rest) ≡ Some (xs, rest)
fills_again xs rest stop = all_again (is_at (codes "for")) fill_at fill_tokens (λ _. Unit {0}) (λ _. Unit {0}) fill_reader (λ f r. refl) (λ f r. tt) (λ f. omega arith) xs rest (anything xs) stop tt

words_again : (xs : List Word) (rest : List Token) → goes_on rest ≡ false → many_at goes_on word_at (suc (length (flat_map word_tokens xs ++ rest))) (flat_map word_tokens xs ++ rest) ≡ Some (xs, rest)
words_again xs rest stop = all_again goes_on word_at word_tokens (λ _. Unit {0}) (λ _. Unit {0}) word_reader (λ w r. refl) (λ w r. tt) (λ w. omega arith) xs rest (anything xs) stop tt

fills_stop : (ws : List Word) (rest : List Token) → is_at (codes "for") ((flat_map word_tokens ws ++ Fixed (codes "end") ∷ []) ++ rest) ≡ false
fills_stop [] rest = refl
fills_stop (w ∷ ws) rest = refl

init_takes : (ts : List Token) (x : Init × List Token) → init_at ts ≡ Some x → Taken some_init_tokens (λ _. Unit {0}) (after_integer ts) x
unfolding init_at
init_takes ts x e =
    let a0 = bind_some (init_start_at ts) (λ start. many_at (is_at (codes "for")) fill_at (suc (length start)) start >>= λ fills. many_at goes_on word_at (suc (length fills.1)) fills.1 >>= λ words. after (codes "end") words.1 >>= λ end. Some (record { fills = fills.0; words = words.0 }, end)) x e in
    let t0 = init_start_takes ts a0.0 a0.1 in
    let a1 = bind_some (many_at (is_at (codes "for")) fill_at (suc (length a0.0)) a0.0) (λ fills. many_at goes_on word_at (suc (length fills.1)) fills.1 >>= λ words. after (codes "end") words.1 >>= λ end. Some (record { fills = fills.0; words = words.0 }, end)) x a0.2 in
    let t1 = fills_take (suc (length a0.0)) a0.0 a1.0 a1.1 in
    let a2 = bind_some (many_at goes_on word_at (suc (length a1.0.1)) a1.0.1) (λ words. after (codes "end") words.1 >>= λ end. Some (record { fills = a1.0.0; words = words.0 }, end)) x a1.2 in
    let t2 = words_take (suc (length a1.0.1)) a1.0.1 a2.0 a2.1 in
    let a3 = bind_some (after (codes "end") a2.0.1) (λ end. Some (record { fills = a1.0.0; words = a2.0.0 }, end)) x a2.2 in
    let t3 = after_takes (codes "end") a2.0.1 a3.0 a3.1 in
    let made : (record { fills = a1.0.0; words = a2.0.0 }, a3.0) ≡ x = same_Some (record { fills = a1.0.0; words = a2.0.0 }, a3.0) x a3.2 in
    subst (Taken some_init_tokens (λ _. Unit {0}) (after_integer ts)) made (ap (λ r. after_integer r) (t0 ∙ ap (λ r. init_start ++ r) (part (flat_map fill_tokens a1.0.0) ((flat_map word_tokens a2.0.0) ++ Fixed (codes "end") ∷ []) a0.0 a1.0.1 a3.0 t1.0 (part (flat_map word_tokens a2.0.0) (Fixed (codes "end") ∷ []) a1.0.1 a2.0.1 a3.0 t2.0 (t3)))), tt)

init_again : (i : Init) (rest : List Token) → init_at (tail (some_init_tokens i ++ rest)) ≡ Some (i, rest)
unfolding init_at init_start_at
init_again i rest =
    ap (λ ts. many_at (is_at (codes "for")) fill_at (suc (length ts)) ts >>= (λ fills. many_at goes_on word_at (suc (length fills.1)) fills.1 >>= λ words. after (codes "end") words.1 >>= λ end. Some (record { fills = fills.0; words = words.0 }, end))) (append_assoc (flat_map fill_tokens i.fills) ((flat_map word_tokens i.words) ++ Fixed (codes "end") ∷ []) rest)
    ∙ bind_at (many_at (is_at (codes "for")) fill_at (suc (length ((flat_map fill_tokens i.fills) ++ (((flat_map word_tokens i.words) ++ Fixed (codes "end") ∷ []) ++ rest)))) ((flat_map fill_tokens i.fills) ++ (((flat_map word_tokens i.words) ++ Fixed (codes "end") ∷ []) ++ rest))) (λ fills. many_at goes_on word_at (suc (length fills.1)) fills.1 >>= λ words. after (codes "end") words.1 >>= λ end. Some (record { fills = fills.0; words = words.0 }, end)) (i.fills, (((flat_map word_tokens i.words) ++ Fixed (codes "end") ∷ []) ++ rest)) (fills_again i.fills (((flat_map word_tokens i.words) ++ Fixed (codes "end") ∷ []) ++ rest) (fills_stop i.words rest))
    ∙ ap (λ ts. many_at goes_on word_at (suc (length ts)) ts >>= (λ words. after (codes "end") words.1 >>= λ end. Some (record { fills = i.fills; words = words.0 }, end))) (append_assoc (flat_map word_tokens i.words) (Fixed (codes "end") ∷ []) rest)
    ∙ bind_at (many_at goes_on word_at (suc (length ((flat_map word_tokens i.words) ++ ((Fixed (codes "end") ∷ []) ++ rest)))) ((flat_map word_tokens i.words) ++ ((Fixed (codes "end") ∷ []) ++ rest))) (λ words. after (codes "end") words.1 >>= λ end. Some (record { fills = i.fills; words = words.0 }, end)) (i.words, ((Fixed (codes "end") ∷ []) ++ rest)) (words_again i.words ((Fixed (codes "end") ∷ []) ++ rest) refl)

-- before what is no init
abbrev pub NoInit : List Token → Type 0
NoInit ts = is_at (codes "integer") ts ≡ false

pub maybe_init_reader : IsReader maybe_init_at init_tokens (λ _. Unit {0}) NoInit
unfolding maybe_init_at
maybe_init_reader = record {
  takes = λ ts x e. elim (chosen (is_at (codes "integer") ts) (init_at (tail ts) >>= λ i. Some (Some i.0, i.1)) (Some (None, ts)) (Some x) e) as (λ _. Taken init_tokens (λ _. Unit {0}) ts x) [
    | inl w ↦
        let a = bind_some (init_at (tail ts)) (λ i. Some (Some i.0, i.1)) x w.1 in
        let made : (Some a.0.0, a.0.1) ≡ x = cc a.2 in
        let first = init_takes (tail ts) a.0 a.1 in
        subst (Taken init_tokens (λ _. Unit {0}) ts) made (at_takes (codes "integer") ts w.0 ∙ first.0, tt)
    | inr w ↦ let made : (None, ts) ≡ x = cc w.1 in subst (Taken init_tokens (λ _. Unit {0}) ts) made (refl, tt)
  ];
  again = again;
}
  where
    again : (i : Option Init) (rest : List Token) → Unit {0} → NoInit rest → maybe_init_at (init_tokens i ++ rest) ≡ Some (i, rest)
    again None rest good next = cond-false (is_at (codes "integer") rest) (init_at (tail rest) >>= λ i. Some (Some i.0, i.1)) (Some (None, rest)) next
    again (Some i) rest good next = bind_at (init_at (tail (some_init_tokens i ++ rest))) (λ i. Some (Some i.0, i.1)) (i, rest) (init_again i rest)
