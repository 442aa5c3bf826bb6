-- Registers and memories at the start are of their module.
use Rattle.std.proofs.Common.{◌≡◌, ℕ, zero, suc, ◌+◌, ◌<◌, ◌^◌, nat_eq, nat_le, Bool, true, false, cond, List, [], ◌∷◌, ◌++◌, length, map, Option, Some, None, refl, sym, ap, subst, ◌∙◌, rules, pow_pos}
use Rattle.std.specs.Prelude.{not, option_map, unwrap_or, fold, find, filter_map, replicate, slice_set, codes}
use Rattle.std.specs.List.{AllByRecursion, list_all}
use Rattle.std.specs.Str.{bytes_eq}
use Rattle.std.proofs.lemmas.Bool.{and_parts}
use Rattle.std.proofs.lemmas.List.{length-set, length-replicate}
use Rattle.std.proofs.lemmas.Option.{same_Some}
use Rattle.std.proofs.lemmas.Slice.Eq.{bytes_eq-Decides}
use Rattle.lg_vtree.specs.declared.expr.Constant.{Constant}
use Rattle.lg_vtree.specs.declared.module.Direction.{Direction}
use Rattle.lg_vtree.specs.declared.module.Direction.TheVariants.{Input as input, Output as output}
use Rattle.lg_vtree.specs.declared.module.Port.{Port}
use Rattle.lg_vtree.specs.declared.module.Decl.{Decl}
use Rattle.lg_vtree.specs.declared.module.Decl.TheVariants as decl
use Rattle.lg_vtree.specs.declared.module.Fill.{Fill}
use Rattle.lg_vtree.specs.declared.module.Word.{Word}
use Rattle.lg_vtree.specs.declared.module.Module.{Module}
use Rattle.lg_vrules.specs.declared.names.Sort.{Sort}
use Rattle.lg_vrules.specs.declared.names.Sort.TheVariants as sort
use Rattle.lg_vrules.specs.declared.names.Thing.{Thing}
use Rattle.lg_vrules.specs.Things.{range_width, port_sort, port_thing, decl_thing, things, names, sort_of, width_of, is_reg, is_memory}
use Rattle.lg_vrules.specs.Rules.{is_among, all_differ, constant_fits, constant_of, last_address, decl_fits, fill_fits, word_fits, assign_fits, stmt_fits, fills_of, words_of, stmts_of, first_broken}
use Rattle.lg_vrules.proofs.NameLemmas.{neither, flip, not_true}
use Rattle.lg_vrules.proofs.RuleLemmas.{rules_kept}
use Rattle.lg_vresolve.proofs.FitLemmas.{constant_parts}
use Rattle.lg_vmeaning.specs.Solution.{AreNumbers, AreMemories, IsOf}
use Rattle.lg_vmeaning.specs.Rows.{filled_with, with_word, start_memory, start_number, start}
use Rattle.lg_vmeaning.proofs.NameLemmas.{found, firsts, lines_in}

-- lists

-- what is found passes the test, and each test that all pass
pub find_passes : {X : Type 0} (test other : X → Bool) (xs : List X) (x : X) → find test xs ≡ Some x → list_all other xs ≡ true → (test x ≡ true) × (other x ≡ true)
find_passes test other [] x e pass = absurd (cc e)
find_passes test other (y ∷ xs) x e pass =
    let parts = and_parts (other y) (list_all other xs) pass in
    step (test y) refl e parts.0 (λ f. find_passes test other xs x f parts.1)
  where
    step : (b : Bool) → test y ≡ b → cond b (Some y) (find test xs) ≡ Some x → other y ≡ true → (find test xs ≡ Some x → (test x ≡ true) × (other x ≡ true)) → (test x ≡ true) × (other x ≡ true)
    step true f e first rest = let same : y ≡ x = same_Some y x e in (ap test (sym same) ∙ f, ap other (sym same) ∙ first)
    step false f e first rest = rest e

-- each word is below this number
abbrev pub AllBelow : ℕ → List ℕ → Type 0
AllBelow most words = AllByRecursion (λ (word : ℕ). word < most) words

-- words stay below a number where one more is put among them
pub set_below : (most : ℕ) (words : List ℕ) (address value : ℕ) → AllBelow most words → value < most → AllBelow most (slice_set words address value)
set_below most [] address value all small = tt
set_below most (word ∷ words) zero value all small = (small, all.1)
set_below most (word ∷ words) (suc address) value all small = (all.0, set_below most words address value all.1 small)

-- one word, again and again
replicate_below : (most n value : ℕ) → value < most → AllBelow most (replicate n value)
replicate_below most zero value small = tt
replicate_below most (suc n) value small = (small, replicate_below most n value small)

-- what the third rule says of what is stored

pub record PartsFit (m : Module) : Type 0 where
  pub decls : list_all (decl_fits (width_of m)) m.decls ≡ true
  pub fills : list_all (fill_fits (width_of m)) (fills_of m) ≡ true
  pub words : list_all (word_fits (sort_of m) (width_of m)) (words_of m) ≡ true
  pub stmts : list_all (stmt_fits (width_of m)) (stmts_of m) ≡ true

-- a module in which no rule is broken keeps them
pub parts_fit : (m : Module) → first_broken m ≡ None → PartsFit m
parts_fit m broken =
    let of_decls = and_parts (list_all (decl_fits (width_of m)) m.decls) _ (rules_kept m broken).fitting in
    let of_fills = and_parts (list_all (fill_fits (width_of m)) (fills_of m)) _ of_decls.1 in
    let of_words = and_parts (list_all (word_fits (sort_of m) (width_of m)) (words_of m)) _ of_fills.1 in
    let rest = and_parts (list_all (assign_fits (sort_of m) (width_of m)) m.assigns) (list_all (stmt_fits (width_of m)) (stmts_of m)) of_words.1 in
    record { decls = of_decls.0; fills = of_fills.0; words = of_words.0; stmts = rest.1 }

-- the value of a constant of a name's width
value_fits : (width : List ℕ → ℕ) (name : List ℕ) (c : Constant) → constant_of width name c ≡ true → c.value < 2 ^ width name
value_fits width name c test =
    let parts = and_parts (constant_fits c) (nat_eq c.width (width name)) test in
    let same : c.width ≡ width name = (let wide = parts.1 in search rules) in
    subst (λ (w : ℕ). c.value < 2 ^ w) same (constant_parts c parts.0).1

-- things among things

-- each of these things is found under its name among all
abbrev AreFound : List (List ℕ × Thing) → List (List ℕ × Thing) → Type 0
AreFound all some = AllByRecursion (λ (t : List ℕ × Thing). found all t.0 ≡ Some t.1) some

-- one thing more, of another name, changes nothing
found_behind : (t : List ℕ × Thing) (all some : List (List ℕ × Thing)) → is_among t.0 (firsts some) ≡ false → AreFound all some → AreFound (t ∷ all) some
found_behind t all [] fresh stand = tt
found_behind t all (u ∷ some) fresh stand =
    let away = neither (bytes_eq u.0 t.0) (is_among t.0 (firsts some)) fresh in
    let apart : bytes_eq t.0 u.0 ≡ false = flip t.0 u.0 ∙ away.0 in
    (rw apart stand.0, found_behind t all some away.1 stand.1)

-- things of names that differ
all_found : (all : List (List ℕ × Thing)) → all_differ (firsts all) ≡ true → AreFound all all
all_found [] differ = tt
all_found (t ∷ all) differ =
    let parts = and_parts (not (is_among t.0 (firsts all))) (all_differ (firsts all)) differ in
    let same : bytes_eq t.0 t.0 ≡ true = (bytes_eq-Decides t.0 t.0).1 refl in
    (rw same refl, found_behind t all all (not_true (is_among t.0 (firsts all)) parts.0) (all_found all parts.1))

-- what is found of two lists is found of the second
found_right : (all some more : List (List ℕ × Thing)) → AreFound all (some ++ more) → AreFound all more
found_right all [] more stand = stand
found_right all (t ∷ some) more stand = found_right all some more stand.1

-- a sort that no port has
no_port : (is : Sort → Bool) → is sort.Clock ≡ false → is sort.Input ≡ false → is sort.Output ≡ false → (direction : Direction) (name : List ℕ) → is (port_sort direction name) ≡ false
no_port is no_clock no_input no_output input name = step (bytes_eq name (codes "clk"))
  where
    step : (b : Bool) → is (cond b sort.Clock sort.Input) ≡ false
    step true = no_clock
    step false = no_input
no_port is no_clock no_input no_output output name = no_output

-- the lines of such a sort come from what stands behind the ports
no_ports : (is : Sort → Bool) → ((direction : Direction) (name : List ℕ) → is (port_sort direction name) ≡ false) → (ports : List Port) (more : List (List ℕ × Thing)) → lines_in is (map port_thing ports ++ more) ≡ lines_in is more
no_ports is none [] more = refl
no_ports is none (p ∷ ports) more = rw (none p.direction p.name) (no_ports is none ports more)

-- registers

-- the starts of registers fit their widths
numbers_start : (m : Module) (decls : List Decl) → AreFound (things m) (map decl_thing decls) → list_all (decl_fits (width_of m)) decls ≡ true
    → AreNumbers (lines_in is_reg (map decl_thing decls)) (filter_map start_number decls)
numbers_start m [] stand fit = tt
numbers_start m (decl.Wire range name ∷ decls) stand fit = numbers_start m decls stand.1 fit
numbers_start m (decl.Memory range name last ∷ decls) stand fit = numbers_start m decls stand.1 fit
numbers_start m (decl.Reg range name value ∷ decls) stand fit =
    let parts = and_parts (constant_of (width_of m) name value) (list_all (decl_fits (width_of m)) decls) fit in
    let width : width_of m name ≡ range_width range = ap (λ (o : Option Thing). unwrap_or (option_map (λ (t : Thing). range_width t.high) o) 0) stand.0 in
    (subst (λ (w : ℕ). value.value < 2 ^ w) width (value_fits (width_of m) name value parts.0), numbers_start m decls stand.1 parts.1)

-- memories

-- what fills a memory fits its width
fill_below : (m : Module) (name : List ℕ) → list_all (fill_fits (width_of m)) (fills_of m) ≡ true → filled_with m name < 2 ^ width_of m name
fill_below m name fit = step (find (λ (f : Fill). bytes_eq f.name name) (fills_of m)) refl
  where
    step : (o : Option Fill) → find (λ (f : Fill). bytes_eq f.name name) (fills_of m) ≡ o → unwrap_or (option_map (λ (f : Fill). f.value.value) o) 0 < 2 ^ width_of m name
    step None e = pow_pos (width_of m name)
    step (Some f) e =
        let passes = find_passes (λ (f : Fill). bytes_eq f.name name) (fill_fits (width_of m)) (fills_of m) f e fit in
        subst (λ (n : List ℕ). f.value.value < 2 ^ width_of m n) ((bytes_eq-Decides f.name name).0 passes.0) (value_fits (width_of m) f.name f.value passes.1)

-- a line of the init leaves words that fit
word_below : (most : ℕ) (name : List ℕ) (words : List ℕ) (w : Word) → AllBelow most words → (bytes_eq w.name name ≡ true → w.value.value < most) → AllBelow most (with_word name words w)
word_below most name words w all small = step (bytes_eq w.name name) refl
  where
    step : (b : Bool) → bytes_eq w.name name ≡ b → AllBelow most (cond b (slice_set words w.address w.value.value) words)
    step true e = set_below most words w.address w.value.value all (small e)
    step false e = all

-- and so do all lines of the init
words_below : (sort : List ℕ → Option Sort) (width : List ℕ → ℕ) (name : List ℕ) (lines : List Word) (words : List ℕ) → list_all (word_fits sort width) lines ≡ true
    → AllBelow (2 ^ width name) words → AllBelow (2 ^ width name) (fold (with_word name) words lines)
words_below sort width name [] words fit all = all
words_below sort width name (w ∷ lines) words fit all =
    let parts = and_parts (word_fits sort width w) (list_all (word_fits sort width) lines) fit in
    let constant = (and_parts (nat_le w.address (last_address (sort w.name))) (constant_of width w.name w.value) parts.0).1 in
    words_below sort width name lines (with_word name words w) parts.1
    (word_below (2 ^ width name) name words w all
    (λ same. subst (λ (n : List ℕ). w.value.value < 2 ^ width n) ((bytes_eq-Decides w.name name).0 same) (value_fits width w.name w.value constant)))

-- the lines of the init leave as many words as there were
words_count : (name : List ℕ) (lines : List Word) (words : List ℕ) → length (fold (with_word name) words lines) ≡ length words
words_count name [] words = refl
words_count name (w ∷ lines) words = words_count name lines (with_word name words w) ∙ step (bytes_eq w.name name)
  where
    step : (b : Bool) → length (cond b (slice_set words w.address w.value.value) words) ≡ length words
    step true = length-set words w.address w.value.value
    step false = refl

-- the words of memories at the start fit, and each address has one
memories_start : (m : Module) (decls : List Decl) → AreFound (things m) (map decl_thing decls) → PartsFit m
    → AreMemories m (lines_in is_memory (map decl_thing decls)) (filter_map (start_memory m) decls)
memories_start m [] stand fit = tt
memories_start m (decl.Wire range name ∷ decls) stand fit = memories_start m decls stand.1 fit
memories_start m (decl.Reg range name value ∷ decls) stand fit = memories_start m decls stand.1 fit
memories_start m (decl.Memory range name last ∷ decls) stand fit =
    let width : width_of m name ≡ range_width range = ap (λ (o : Option Thing). unwrap_or (option_map (λ (t : Thing). range_width t.high) o) 0) stand.0 in
    let addresses : last_address (sort_of m name) ≡ last = ap (λ (o : Option Thing). last_address (option_map (λ (t : Thing). t.sort) o)) stand.0 in
    let number = filled_with m name in
    let below = words_below (sort_of m) (width_of m) name (words_of m) (replicate (last + 1) number) fit.words
    (replicate_below (2 ^ width_of m name) (last + 1) number (fill_below m name fit.fills)) in (
      words_count name (words_of m) (replicate (last + 1) number) ∙ (length-replicate (last + 1) number ∙ ap (λ (n : ℕ). n + 1) (sym addresses)),
      subst (λ (w : ℕ). AllBelow (2 ^ w) (fold (with_word name) (replicate (last + 1) number) (words_of m))) width below,
      memories_start m decls stand.1 fit,
    )

-- registers and memories of a module that keeps the rules are its own at the start
pub start_is_of : (m : Module) → first_broken m ≡ None → IsOf m (start m)
start_is_of m broken =
    let fit = parts_fit m broken in
    let differ : all_differ (names m) ≡ true = (and_parts (all_differ (names m)) _ (rules_kept m broken).named).0 in
    let stand = found_right (things m) (map port_thing m.ports) (map decl_thing m.decls) (all_found (things m) differ) in
    record {
      numbers =
          subst (λ (lines : List (List ℕ × ℕ)). AreNumbers lines (filter_map start_number m.decls))
          (sym (no_ports is_reg (no_port is_reg refl refl refl) m.ports (map decl_thing m.decls))) (numbers_start m m.decls stand fit.decls);
      memories =
          subst (λ (lines : List (List ℕ × ℕ)). AreMemories m lines (filter_map (start_memory m) m.decls))
          (sym (no_ports is_memory (no_port is_memory refl refl refl) m.ports (map decl_thing m.decls))) (memories_start m m.decls stand fit);
    }
