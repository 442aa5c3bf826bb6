-- The lines and names of one sort among ports and declarations.
use Rattle.std.proofs.Common.{◌≡◌, ℕ, ◌+◌, ◌<◌, Bool, true, false, cond, List, [], ◌∷◌, ◌++◌, length, map, take, get_or, refl, sym, ap, ◌∙◌, append-nil}
use Rattle.std.specs.Prelude.{filter, codes}
use Rattle.std.specs.Str.{bytes_eq}
use Rattle.std.proofs.lemmas.List.{map_more, map-append}
use Rattle.lg_vtree.specs.declared.module.Direction.{Direction}
use Rattle.lg_vtree.specs.declared.module.Direction.TheVariants.{Input as input, Output as output}
use Rattle.lg_vtree.specs.declared.module.Port.{Port}
use Rattle.lg_vtree.specs.declared.module.Decl.{Decl}
use Rattle.lg_vtree.specs.declared.module.Decl.TheVariants as decl
use Rattle.lg_vtree.specs.declared.module.Module.{Module}
use Rattle.lg_vrules.specs.declared.names.Sort.{Sort}
use Rattle.lg_vrules.specs.declared.names.Sort.TheVariants as sort
use Rattle.lg_vrules.specs.Things.{range_width, port_sort, port_thing, decl_thing, lines_of}
use Rattle.lg_vmeaning.specs.declared.kept_names.Storage.{Storage}
use Rattle.lg_vmeaning.specs.declared.kept_names.Storage.TheVariants as storage
use Rattle.lg_vmeaning.specs.Ports.{is_going, is_kept_as}
use Rattle.lg_vmeaning.proofs.NameLemmas.{Named, lines_in, names_in}

abbrev pub line : Named → List ℕ × ℕ
line t = (t.0, range_width t.1.high)

abbrev pub first_of_line : List ℕ × ℕ → List ℕ
first_of_line l = l.0

pub lines_append : (is : Sort → Bool) (xs ys : List Named) → lines_in is (xs ++ ys) ≡ lines_in is xs ++ lines_in is ys
lines_append is [] ys = refl
lines_append is (t ∷ xs) ys = step (is t.1.sort) (lines_append is xs ys)
  where
    step : (b : Bool) → lines_in is (xs ++ ys) ≡ lines_in is xs ++ lines_in is ys
        → map line (cond b (t ∷ filter (λ (t : Named). is t.1.sort) (xs ++ ys)) (filter (λ (t : Named). is t.1.sort) (xs ++ ys)))
        ≡ map line (cond b (t ∷ filter (λ (t : Named). is t.1.sort) xs) (filter (λ (t : Named). is t.1.sort) xs)) ++ lines_in is ys
    step true e = ap (λ more. line t ∷ more) e
    step false e = e

one_line : (is : Sort → Bool) (t : Named) (b : Bool) → is t.1.sort ≡ b → lines_in is (t ∷ []) ≡ cond b (line t ∷ []) []
one_line is t true e = rw e refl
one_line is t false e = rw e refl

-- the lines of some items, and of one item more
pub lines_more : {A : Type 0} (is : Sort → Bool) (f : A → Named) (items : List A) (i : ℕ) (a : A) (b : Bool) → i < length items → a ≡ get_or items i a → is (f a).1.sort ≡ b
    → lines_in is (map f (take (i + 1) items)) ≡ lines_in is (map f (take i items)) ++ cond b (line (f a) ∷ []) []
lines_more is f items i a b lt here e =
    ap (lines_in is) (map_more f items i a lt ∙ ap (λ x. map f (take i items) ++ f x ∷ []) (sym here))
    ∙ (lines_append is (map f (take i items)) (f a ∷ []) ∙ ap (λ more. lines_in is (map f (take i items)) ++ more) (one_line is (f a) b e))

-- and their names
pub names_more : {A : Type 0} (is : Sort → Bool) (f : A → Named) (items : List A) (i : ℕ) (a : A) → i < length items → a ≡ get_or items i a → is (f a).1.sort ≡ true
    → names_in is (map f (take (i + 1) items)) ≡ names_in is (map f (take i items)) ++ (f a).0 ∷ []
names_more is f items i a lt here e =
    ap (map first_of_line) (lines_more is f items i a true lt here e) ∙ map-append first_of_line (lines_in is (map f (take i items))) (line (f a) ∷ [])

pub lines_same : {A : Type 0} (is : Sort → Bool) (f : A → Named) (items : List A) (i : ℕ) (a : A) → i < length items → a ≡ get_or items i a → is (f a).1.sort ≡ false
    → lines_in is (map f (take (i + 1) items)) ≡ lines_in is (map f (take i items))
lines_same is f items i a lt here e = lines_more is f items i a false lt here e ∙ append-nil (lines_in is (map f (take i items)))

no_lines : {A : Type 0} (is : Sort → Bool) (f : A → Named) → ((a : A) → is (f a).1.sort ≡ false) → (items : List A) → lines_in is (map f items) ≡ []
no_lines is f none [] = refl
no_lines is f none (a ∷ items) = step (is (f a).1.sort) (none a) (no_lines is f none items)
  where
    step : (b : Bool) → b ≡ false → lines_in is (map f items) ≡ []
        → map line (cond b (f a ∷ filter (λ (t : Named). is t.1.sort) (map f items)) (filter (λ (t : Named). is t.1.sort) (map f items))) ≡ []
    step false e rest = rest
    step true e rest = absurd (cc e)

no_kept_port : (s : Storage) (p : Port) → is_kept_as s (port_thing p).1.sort ≡ false
no_kept_port s p = by s p.direction
  where
    by_clock : (s : Storage) (b : Bool) → is_kept_as s (cond b sort.Clock sort.Input) ≡ false
    by_clock storage.Register true = refl
    by_clock storage.Register false = refl
    by_clock storage.Memory true = refl
    by_clock storage.Memory false = refl

    by : (s : Storage) (d : Direction) → is_kept_as s (port_sort d p.name) ≡ false
    by s input = by_clock s (bytes_eq p.name (codes "clk"))
    by storage.Register output = refl
    by storage.Memory output = refl

no_going_decl : (direction : Direction) (d : Decl) → is_going direction (decl_thing d).1.sort ≡ false
no_going_decl input (decl.Wire range name) = refl
no_going_decl input (decl.Reg range name start) = refl
no_going_decl input (decl.Memory range name last) = refl
no_going_decl output (decl.Wire range name) = refl
no_going_decl output (decl.Reg range name start) = refl
no_going_decl output (decl.Memory range name last) = refl

-- what is kept stands among the declarations
pub kept_lines : (s : Storage) (m : Module) → lines_of (is_kept_as s) m ≡ lines_in (is_kept_as s) (map decl_thing m.decls)
kept_lines s m =
    lines_append (is_kept_as s) (map port_thing m.ports) (map decl_thing m.decls)
    ∙ ap (λ lines. lines ++ lines_in (is_kept_as s) (map decl_thing m.decls)) (no_lines (is_kept_as s) port_thing (no_kept_port s) m.ports)

-- inputs and outputs stand among the ports
pub going_lines : (direction : Direction) (m : Module) → lines_of (is_going direction) m ≡ lines_in (is_going direction) (map port_thing m.ports)
going_lines direction m =
    lines_append (is_going direction) (map port_thing m.ports) (map decl_thing m.decls)
    ∙ (ap (λ lines. lines_in (is_going direction) (map port_thing m.ports) ++ lines) (no_lines (is_going direction) decl_thing (no_going_decl direction) m.decls)
    ∙ append-nil (lines_in (is_going direction) (map port_thing m.ports)))
