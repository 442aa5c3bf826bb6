-- Equations that stand in order have exactly one solution.
use Rattle.std.proofs.Common.{◌≡◌, ℕ, ◌^◌, ◌<◌, Bool, true, false, cond, List, [], ◌∷◌, ◌++◌, length, map, refl, sym, ap, subst, ◌∙◌, arith, inl, inr, ◌⊎◌}
use Rattle.std.specs.Prelude.{Contains, filter}
use Rattle.std.specs.List.{AllByRecursion}
use Rattle.std.specs.Str.{bytes_eq}
use Rattle.std.proofs.lemmas.List.{map-append, length-append, length-map}
use Rattle.std.proofs.lemmas.List.Elements.{All-from_recursion, recursion_from_All, All-weaker, All-contains, All-contains_itself}
use Rattle.std.proofs.lemmas.Slice.Eq.{bytes_eq-Decides}
use Rattle.lg_vtree.specs.declared.module.Assign.{Assign}
use Rattle.lg_vtree.specs.declared.module.Module.{Module}
use Rattle.lg_vrules.specs.declared.names.Sort.{Sort}
use Rattle.lg_vrules.specs.declared.names.Sort.TheVariants as sort
use Rattle.lg_vrules.specs.declared.names.Thing.{Thing}
use Rattle.lg_vrules.specs.Things.{range_width, things, width_of, lines_of, names_of, is_input, is_reg, is_readable}
use Rattle.lg_vmachine.specs.Kept.{Kept}
use Rattle.lg_vresolve.specs.Meaning.{Valuation, number_of}
use Rattle.lg_vmeaning.specs.Solution.{AreNumbers, IsTheSolution}
use Rattle.lg_vmeaning.specs.InOrder.{IsIn, AgreeAt, AreWithin, AreInOrder, AllDiffer, IsGiven, AreOrdered, sources}

-- the valuation with another number at one name
abbrev pub changed : Valuation → List ℕ → ℕ → Valuation
changed v name number other = cond (bytes_eq other name) number (v other)

pub changed_at : (v : Valuation) (name : List ℕ) (number : ℕ) → changed v name number name ≡ number
changed_at v name number = let same : bytes_eq name name ≡ true = (bytes_eq-Decides name name).1 refl in rw same refl

differ : (a b : List ℕ) (t : Bool) → bytes_eq a b ≡ t → (a ≡ b → ⊥) → t ≡ false
differ a b true e apart = absurd (apart ((bytes_eq-Decides a b).0 e))
differ a b false e apart = refl

pub changed_other : (v : Valuation) (name : List ℕ) (number : ℕ) (other : List ℕ) → (other ≡ name → ⊥) → changed v name number other ≡ v other
changed_other v name number other apart = let not_same : bytes_eq other name ≡ false = differ other name (bytes_eq other name) refl apart in rw not_same refl

-- the valuation after some equations in turn
abbrev pub solved : Module → Kept → Valuation → List Assign → Valuation
solved m k v [] = v
solved m k v (a ∷ more) = solved m k (changed v a.name (number_of m k v a.value)) more

-- each of these equations holds
abbrev pub Hold : Module → Kept → Valuation → List Assign → Type 0
Hold m k v assigns = AllByRecursion (λ (a : Assign). v a.name ≡ number_of m k v a.value) assigns

not_known : (known : List (List ℕ)) (name other : List ℕ) → (IsIn known other → ⊥) → IsIn known name → name ≡ other → ⊥
not_known known name other fresh here e = fresh (subst (IsIn known) e here)

-- what is known stays
pub kept : (m : Module) (k : Kept) (known : List (List ℕ)) (v : Valuation) (assigns : List Assign) → AreInOrder m k known assigns → AgreeAt known (solved m k v assigns) v
kept m k known v [] order name here = refl
kept m k known v (a ∷ more) order name here =
    kept m k (a.name ∷ known) (changed v a.name (number_of m k v a.value)) more order.3 name (inr here)
    ∙ changed_other v a.name (number_of m k v a.value) name (not_known known name a.name order.2 here)

pub holds : (m : Module) (k : Kept) (known : List (List ℕ)) (v : Valuation) (assigns : List Assign) → AreInOrder m k known assigns → Hold m k (solved m k v assigns) assigns
holds m k known v [] order = tt
holds m k known v (a ∷ more) order =
    let number = number_of m k v a.value in
    let next = changed v a.name number in
    let all = solved m k next more in
    let agree : AgreeAt known v all = λ name here. sym (kept m k known v (a ∷ more) order name here) in
    let given : all a.name ≡ number = kept m k (a.name ∷ known) next more order.3 a.name (inl refl) ∙ changed_at v a.name number in
    (given ∙ order.0 v all agree, holds m k (a.name ∷ known) next more order.3)

given_next : (known : List (List ℕ)) (a : Assign) (more : List Assign) (name : List ℕ) → IsGiven known (a ∷ more) name → IsGiven (a.name ∷ known) more name
given_next known a more name (inl here) = inl (inr here)
given_next known a more name (inr (inl e)) = inl (inl e)
given_next known a more name (inr (inr later)) = inr later

-- two valuations that agree on what is known and solve the equations agree on all that is given
pub one_solution : (m : Module) (k : Kept) (known : List (List ℕ)) (assigns : List Assign) (v w : Valuation) → AreInOrder m k known assigns → AgreeAt known v w
    → Hold m k v assigns → Hold m k w assigns → (name : List ℕ) → IsGiven known assigns name → v name ≡ w name
one_solution m k known [] v w order agree sv sw name (inl here) = agree name here
one_solution m k known [] v w order agree sv sw name (inr there) = absurd there
one_solution m k known (a ∷ more) v w order agree sv sw name given =
    let same : v a.name ≡ w a.name = sv.0 ∙ (order.0 v w agree ∙ sym sw.0) in
    one_solution m k (a.name ∷ known) more v w order.3 (agree_more known a.name v w agree same) sv.1 sw.1 name (given_next known a more name given)
  where
    agree_more : (known : List (List ℕ)) (new : List ℕ) (v w : Valuation) → AgreeAt known v w → v new ≡ w new → AgreeAt (new ∷ known) v w
    agree_more known new v w agree same name (inl e) = ap v e ∙ (same ∙ ap w (sym e))
    agree_more known new v w agree same name (inr here) = agree name here

-- all that is given is within its width
pub within_given : (m : Module) (k : Kept) (known : List (List ℕ)) (assigns : List Assign) (v : Valuation) → AreInOrder m k known assigns → AreWithin m known v
    → Hold m k v assigns → (name : List ℕ) → IsGiven known assigns name → v name < 2 ^ width_of m name
within_given m k known [] v order within sv name (inl here) = within name here
within_given m k known [] v order within sv name (inr there) = absurd there
within_given m k known (a ∷ more) v order within sv name given =
    let low : v a.name < 2 ^ width_of m a.name = subst (λ (n : ℕ). n < 2 ^ width_of m a.name) (sym sv.0) (order.1 v within) in
    within_given m k (a.name ∷ known) more v order.3 (within_more m known a.name v within low) sv.1 name (given_next known a more name given)
  where
    within_more : (m : Module) (known : List (List ℕ)) (new : List ℕ) (v : Valuation) → AreWithin m known v → v new < 2 ^ width_of m new → AreWithin m (new ∷ known) v
    within_more m known new v within low name (inl e) = subst (λ (other : List ℕ). v other < 2 ^ width_of m other) (sym e) low
    within_more m known new v within low name (inr here) = within name here

-- the valuation that gives these names these numbers
abbrev pub given_by : List (List ℕ) → List ℕ → Valuation
given_by (name ∷ names) (number ∷ numbers) = changed (given_by names numbers) name number
given_by _ _ = λ name. 0

cons_eq : (a b : ℕ) (xs ys : List ℕ) → a ≡ b → xs ≡ ys → a ∷ xs ≡ b ∷ ys
cons_eq a b xs ys e f = cc

heads : (a b : ℕ) (xs ys : List ℕ) → a ∷ xs ≡ b ∷ ys → a ≡ b
heads a b xs ys e = cc

tails : (a b : ℕ) (xs ys : List ℕ) → a ∷ xs ≡ b ∷ ys → xs ≡ ys
tails a b xs ys e = cc

pub map_agree : (names : List (List ℕ)) (v w : Valuation) → AgreeAt names v w → map v names ≡ map w names
map_agree [] v w agree = refl
map_agree (name ∷ names) v w agree = cons_eq (v name) (w name) (map v names) (map w names) (agree name (inl refl)) (map_agree names v w (λ other here. agree other (inr here)))

same_at_names : (names : List (List ℕ)) (v w : Valuation) → map v names ≡ map w names → AgreeAt names v w
same_at_names [] v w e name here = absurd here
same_at_names (other ∷ names) v w e name (inl f) = ap v f ∙ (heads (v other) (w other) (map v names) (map w names) e ∙ ap w (sym f))
same_at_names (other ∷ names) v w e name (inr here) = same_at_names names v w (tails (v other) (w other) (map v names) (map w names) e) name here

pub given_by-all : (names : List (List ℕ)) (numbers : List ℕ) → AllDiffer names → length names ≡ length numbers → map (given_by names numbers) names ≡ numbers
given_by-all [] [] differ e = refl
given_by-all [] (number ∷ numbers) differ e = absurd (omega (arith, e))
given_by-all (name ∷ names) [] differ e = absurd (omega (arith, e))
given_by-all (name ∷ names) (number ∷ numbers) differ e =
    let rest = given_by names numbers in
    let same : map (changed rest name number) names ≡ map rest names =
    map_agree names (changed rest name number) rest (λ other here. changed_other rest name number other (λ f. differ.0 (subst (IsIn names) f here))) in
    cons_eq (changed rest name number name) number (map (changed rest name number) names) numbers (changed_at rest name number) (same ∙ given_by-all names numbers differ.1 (omega (arith, e)))

-- lines and their names

abbrev names_in : List (List ℕ × ℕ) → List (List ℕ)
names_in lines = map (λ (l : List ℕ × ℕ). l.0) lines

-- the width of each line is that of its name
abbrev HaveWidths : Module → List (List ℕ × ℕ) → Type 0
HaveWidths m lines = AllByRecursion (λ (l : List ℕ × ℕ). width_of m l.0 ≡ l.1) lines

as_many : (lines : List (List ℕ × ℕ)) (numbers : List ℕ) → AreNumbers lines numbers → length (names_in lines) ≡ length numbers
as_many [] [] are = refl
as_many [] (n ∷ numbers) are = absurd are
as_many (l ∷ lines) [] are = absurd are
as_many (l ∷ lines) (n ∷ numbers) are = let rest = as_many lines numbers are.1 in omega arith

within_lines : (m : Module) (lines : List (List ℕ × ℕ)) (v : Valuation) → HaveWidths m lines → AreNumbers lines (map v (names_in lines)) → AreWithin m (names_in lines) v
within_lines m [] v widths are name here = absurd here
within_lines m (l ∷ lines) v widths are name (inl e) =
    subst (λ (other : List ℕ). v other < 2 ^ width_of m other) (sym e) (subst (λ (width : ℕ). v l.0 < 2 ^ width) (sym widths.0) are.0)
within_lines m (l ∷ lines) v widths are name (inr here) = within_lines m lines v widths.1 are.1 name here

abbrev line : List ℕ × Thing → List ℕ × ℕ
line t = (t.0, range_width t.1.high)

abbrev of : (Sort → Bool) → List (List ℕ × Thing) → List (List ℕ × Thing)
of is all = filter (λ (t : List ℕ × Thing). is t.1.sort) all

-- the lines of one sort among these
abbrev pub sorted : (Sort → Bool) → List (List ℕ × Thing) → List (List ℕ × ℕ)
sorted is all = map line (of is all)

-- what holds of all readable names holds of those of one readable sort
of_sort : (is : Sort → Bool) → ((s : Sort) → is s ≡ true → is_readable s ≡ true) → (P : List ℕ × ℕ → Type 0) (all : List (List ℕ × Thing))
    → AllByRecursion P (sorted is_readable all) → AllByRecursion P (sorted is all)
of_sort is readable P [] all_hold = tt
of_sort is readable P (t ∷ all) all_hold = by (is t.1.sort) (is_readable t.1.sort) (readable t.1.sort) (of_sort is readable P all) all_hold
  where
    by : (a b : Bool) → (a ≡ true → b ≡ true) → (AllByRecursion P (sorted is_readable all) → AllByRecursion P (sorted is all))
        → AllByRecursion P (map line (cond b (t ∷ of is_readable all) (of is_readable all))) → AllByRecursion P (map line (cond a (t ∷ of is all) (of is all)))
    by false false e rest all_hold = rest all_hold
    by false true e rest all_hold = rest all_hold.1
    by true true e rest all_hold = (all_hold.0, rest all_hold.1)
    by true false e rest all_hold = absurd (cc (e refl))

input-is_readable : (s : Sort) → is_input s ≡ true → is_readable s ≡ true
input-is_readable sort.Input e = refl
input-is_readable sort.Clock e = absurd (cc e)
input-is_readable sort.Output e = absurd (cc e)
input-is_readable sort.Wire e = absurd (cc e)
input-is_readable sort.Reg e = absurd (cc e)
input-is_readable (sort.Memory last) e = absurd (cc e)

reg-is_readable : (s : Sort) → is_reg s ≡ true → is_readable s ≡ true
reg-is_readable sort.Reg e = refl
reg-is_readable sort.Input e = absurd (cc e)
reg-is_readable sort.Clock e = absurd (cc e)
reg-is_readable sort.Output e = absurd (cc e)
reg-is_readable sort.Wire e = absurd (cc e)
reg-is_readable (sort.Memory last) e = absurd (cc e)

-- names of two lists

pub in_either : (names others : List (List ℕ)) (name : List ℕ) → IsIn (names ++ others) name → IsIn names name ⊎ IsIn others name
in_either [] others name here = inr here
in_either (other ∷ names) others name (inl e) = inl (inl e)
in_either (other ∷ names) others name (inr here) = by (in_either names others name here)
  where
    by : IsIn names name ⊎ IsIn others name → IsIn (other ∷ names) name ⊎ IsIn others name
    by (inl h) = inl (inr h)
    by (inr h) = inr h

split : (xs ys us vs : List ℕ) → length xs ≡ length us → xs ++ ys ≡ us ++ vs → (xs ≡ us) × (ys ≡ vs)
split [] ys [] vs fits e = (refl, e)
split [] ys (u ∷ us) vs fits e = absurd (omega (arith, fits))
split (x ∷ xs) ys [] vs fits e = absurd (omega (arith, fits))
split (x ∷ xs) ys (u ∷ us) vs fits e =
    let rest = split xs ys us vs (omega (arith, fits)) (tails x u (xs ++ ys) (us ++ vs) e) in
    (cons_eq x u xs us (heads x u (xs ++ ys) (us ++ vs) e) rest.0, rest.1)

-- the same equations hold in another order
pub reordered : (m : Module) (k : Kept) (v : Valuation) (some others : List Assign) → ((a : Assign) → Contains others a → Contains some a) → Hold m k v some → Hold m k v others
reordered m k v some others among hold =
    let P = λ (a : Assign). v a.name ≡ number_of m k v a.value in
    recursion_from_All P others (All-weaker (Contains others) P (λ a here. All-contains P some a (All-from_recursion P some hold) (among a here)) others (All-contains_itself others))

within_all : (m : Module) (given : List ℕ → Type 0) (lines : List (List ℕ × ℕ)) (v : Valuation) → ((name : List ℕ) → given name → v name < 2 ^ width_of m name)
    → AllByRecursion (λ (l : List ℕ × ℕ). given l.0 × (width_of m l.0 ≡ l.1)) lines → AllByRecursion (λ (l : List ℕ × ℕ). v l.0 < 2 ^ l.1) lines
within_all m given [] v within all = tt
within_all m given (l ∷ lines) v within all = (subst (λ (width : ℕ). v l.0 < 2 ^ width) all.0.1 (within l.0 all.0.0), within_all m given lines v within all.1)

agree_all : (m : Module) (given : List ℕ → Type 0) (lines : List (List ℕ × ℕ)) (v w : Valuation) → ((name : List ℕ) → given name → v name ≡ w name)
    → AllByRecursion (λ (l : List ℕ × ℕ). given l.0 × (width_of m l.0 ≡ l.1)) lines → AllByRecursion (λ (l : List ℕ × ℕ). v l.0 ≡ w l.0) lines
agree_all m given [] v w same all = tt
agree_all m given (l ∷ lines) v w same all = (same l.0 all.0.0, agree_all m given lines v w same all.1)

widths_in : (m : Module) (given : List ℕ → Type 0) (lines : List (List ℕ × ℕ)) → AllByRecursion (λ (l : List ℕ × ℕ). given l.0 × (width_of m l.0 ≡ l.1)) lines → HaveWidths m lines
widths_in m given [] all = tt
widths_in m given (l ∷ lines) all = (all.0.1, widths_in m given lines all.1)

-- a module of equations in order has exactly one solution: its inputs, its registers, and then the equations in turn
pub TheSolution-ordered : (m : Module) (k : Kept) (inputs : List ℕ) (order : List Assign) → AreOrdered m k order → AreNumbers (lines_of is_input m) inputs → AreNumbers (lines_of is_reg m) k.numbers
    → IsTheSolution m k inputs (solved m k (given_by (sources m) (inputs ++ k.numbers)) order)
TheSolution-ordered m k inputs order o are_inputs are_registers =
    let start = given_by (sources m) (inputs ++ k.numbers) in
    let value = solved m k start order in
    let given = IsGiven (sources m) order in
    let equations = holds m k (sources m) start order o.in_order in
    let inputs_fit = as_many (lines_of is_input m) inputs are_inputs in
    let registers_fit = as_many (lines_of is_reg m) k.numbers are_registers in
    let fits : length (sources m) ≡ length (inputs ++ k.numbers) =
    length-append (names_of is_input m) (names_of is_reg m) ∙ (rw (inputs_fit, registers_fit) (sym (length-append inputs k.numbers))) in
    let all : map value (sources m) ≡ inputs ++ k.numbers =
    map_agree (sources m) value start (kept m k (sources m) start order o.in_order) ∙ given_by-all (sources m) (inputs ++ k.numbers) o.sources_differ fits in
    let parts = split (map value (names_of is_input m)) (map value (names_of is_reg m)) inputs k.numbers (length-map (names_of is_input m) value ∙ inputs_fit) (sym (map-append value (names_of is_input m) (names_of is_reg m)) ∙ all) in
    let widths = widths_in m given (lines_of is_readable m) o.all_given in
    let inputs_within = within_lines m (lines_of is_input m) value (of_sort is_input input-is_readable (λ l. width_of m l.0 ≡ l.1) (things m) widths) (subst (AreNumbers (lines_of is_input m)) (sym parts.0) are_inputs) in
    let registers_within = within_lines m (lines_of is_reg m) value (of_sort is_reg reg-is_readable (λ l. width_of m l.0 ≡ l.1) (things m) widths) (subst (AreNumbers (lines_of is_reg m)) (sym parts.1) are_registers) in
    let sources_within : AreWithin m (sources m) value = λ name here. both name (in_either (names_of is_input m) (names_of is_reg m) name here) inputs_within registers_within in
    record {
      solves = record {
        within = within_all m given (lines_of is_readable m) value (within_given m k (sources m) order value o.in_order sources_within equations) o.all_given;
        inputs = parts.0;
        registers = parts.1;
        equations = reordered m k value order m.assigns (λ a. (o.same a).0) equations;
      };
      only = λ other s.
          let same : map value (sources m) ≡ map other (sources m) =
          all ∙ (sym (rw (s.inputs, s.registers) refl) ∙ sym (map-append other (names_of is_input m) (names_of is_reg m))) in
          agree_all m given (lines_of is_readable m) value other
          (one_solution m k (sources m) order value other o.in_order (same_at_names (sources m) value other same) equations (reordered m k other m.assigns order (λ a. (o.same a).1) s.equations)) o.all_given;
    }
  where
    both : (name : List ℕ) → IsIn (names_of is_input m) name ⊎ IsIn (names_of is_reg m) name → AreWithin m (names_of is_input m) (solved m k (given_by (sources m) (inputs ++ k.numbers)) order)
        → AreWithin m (names_of is_reg m) (solved m k (given_by (sources m) (inputs ++ k.numbers)) order) → solved m k (given_by (sources m) (inputs ++ k.numbers)) order name < 2 ^ width_of m name
    both name (inl here) inputs_within registers_within = inputs_within name here
    both name (inr here) inputs_within registers_within = registers_within name here
