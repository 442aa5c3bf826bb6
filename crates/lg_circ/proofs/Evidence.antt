-- Tests that are kept as evidence.
use Rattle.std.proofs.Common.{◌≡◌, Bool, true, false, eqb, ◌&&◌, ℕ, suc, List, [], ◌∷◌, length, Option, Some, None, refl, sym, ap, subst, ◌∙◌, arith}
use Rattle.std.specs.Prelude.{IsTrue, codes, not, min, unwrap_or}
use Rattle.std.specs.List.{list_all}
use Rattle.std.specs.Char.{is_ascii_digit}
use Rattle.std.proofs.lemmas.Bool.{false≢true, and_parts, cond-true, cond-false}
use Rattle.std.proofs.lemmas.Bool.Decides.{nat_tests}
use Rattle.std.proofs.lemmas.Option.{same_Some}
use mathlib.Core.Bool.{Bool-set}
use Rattle.lg_circ.specs.declared.element.Element.{Element}
use Rattle.lg_circ.specs.declared.project.Point.{Point}
use Rattle.lg_circ.specs.declared.project.Wire.{Wire}
use Rattle.lg_circ.specs.declared.project.Comp.{Comp}
use Rattle.lg_circ.specs.declared.project.Sheet.{Sheet}
use Rattle.lg_circ.specs.declared.project.Project.{Project}
use Rattle.lg_circ.specs.Bounds.{is_on_sheet, is_limit, usual_limit, given}
use Rattle.lg_attrs.specs.Pairs.{value_under}
use Rattle.lg_circ.specs.Grammar.{are_digits, number_in}
use Rattle.lg_circ.specs.Tree.{attribute, children_named, child_named}
use Rattle.lg_circ.specs.Meaning.{◌>>=◌, each, number_of, decimal_of, point_of, lib_of, settings_of, wire_of, comp_of, sheet_of, options_of, Limit, limit_of, is_error, project_of}
use Rattle.lg_circ.proofs.Digits.{number_same}
use Rattle.lg_circ.proofs.Pieces.{bind_at}

-- that a test succeeds is known in one way
pub one_evidence : (test : Bool) (h h' : IsTrue test) → h ≡ h'
one_evidence test h h' = Bool-set test true h h'

-- where the test succeeds, what follows from that is there
pub given_some : {A : Type 0} (test : Bool) (made : IsTrue test → A) (h : IsTrue test) → given test made ≡ Some (made h)
given_some true made h = ap (λ (e : IsTrue true). Some (made e)) (one_evidence true refl h)
given_some false made h = absurd (false≢true h)

-- and where it fails, nothing is
pub given_none : {A : Type 0} (test : Bool) (made : IsTrue test → A) → test ≡ false → given test made ≡ None
given_none true made h = absurd (false≢true (sym h))
given_none false made h = refl

-- a wire whose ends are on the sheet
pub wire_says : (e : Element) (from to : Point) (h : IsTrue (is_on_sheet from && is_on_sheet to)) → (attribute (codes "from") e >>= point_of) ≡ Some from → (attribute (codes "to") e >>= point_of) ≡ Some to
    → wire_of e ≡ Some (record { from = from; to = to; on_sheet = h })
wire_says e from to h first second =
    let made : Point → Point → Option Wire = λ a b. given (is_on_sheet a && is_on_sheet b) (λ on_sheet. record { from = a; to = b; on_sheet = on_sheet }) in
    bind_at (attribute (codes "from") e >>= point_of) (λ a. attribute (codes "to") e >>= point_of >>= λ b. made a b) from first
    ∙ bind_at (attribute (codes "to") e >>= point_of) (λ b. made from b) to second
    ∙ given_some (is_on_sheet from && is_on_sheet to) (λ on_sheet. record { from = from; to = to; on_sheet = on_sheet }) h

-- a component that stands on the sheet
pub comp_says : (e : Element) (lib : Option (List ℕ)) (name : List ℕ) (loc : Point) (settings : List (List ℕ × List ℕ)) (h : IsTrue (is_on_sheet loc)) → ◌≡◌ {A = Option (Option (List ℕ))} (Some (attribute (codes "lib") e)) (Some lib) → attribute (codes "name") e ≡ Some name → (attribute (codes "loc") e >>= point_of) ≡ Some loc
    → settings_of e ≡ Some settings → comp_of e ≡ Some (record { lib = lib; name = name; loc = loc; attrs = record { list = settings }; on_sheet = h })
comp_says e lib name loc settings h from named placed set =
    let made : List ℕ → Point → List (List ℕ × List ℕ) → Option Comp = λ n p s. given (is_on_sheet p) (λ on_sheet. record { lib = attribute (codes "lib") e; name = n; loc = p; attrs = record { list = s }; on_sheet = on_sheet }) in
    bind_at (attribute (codes "name") e) (λ n. attribute (codes "loc") e >>= point_of >>= λ p. settings_of e >>= λ s. made n p s) name named
    ∙ bind_at (attribute (codes "loc") e >>= point_of) (λ p. settings_of e >>= λ s. made name p s) loc placed
    ∙ bind_at (settings_of e) (λ s. made name loc s) settings set
    ∙ given_some (is_on_sheet loc) (λ on_sheet. record { lib = attribute (codes "lib") e; name = name; loc = loc; attrs = record { list = settings }; on_sheet = on_sheet }) h
    ∙ ap (λ (l : Option (List ℕ)). Some (record { lib = l; name = name; loc = loc; attrs = record { list = settings }; on_sheet = h })) (same_Some (attribute (codes "lib") e) lib from)

-- a limit that a text says
abbrev in_limit : ℕ → Option Limit
in_limit n = given (is_limit n) (λ in_range. (n, in_range))

-- some digits are at least one
digits_cons : (c : ℕ) (cs : List ℕ) → are_digits is_ascii_digit (c ∷ cs) ≡ list_all is_ascii_digit (c ∷ cs)
digits_cons c cs = ap (λ (b : Bool). b && list_all is_ascii_digit (c ∷ cs)) (some (length cs))
  where
    some : (n : ℕ) → not (eqb (suc n) 0) ≡ true
    some n = grind (arith, nat_tests)

decimal_from : (text : List ℕ) → are_digits is_ascii_digit text ≡ true → decimal_of text ≡ Some (number_of text)
decimal_from [] are = absurd cc
decimal_from (c ∷ cs) are = cond-true (list_all is_ascii_digit (c ∷ cs)) (Some (number_of (c ∷ cs))) None (sym (digits_cons c cs) ∙ are)

-- what are no digits is no decimal
decimal_none : (text : List ℕ) → are_digits is_ascii_digit text ≡ false → decimal_of text ≡ None
decimal_none [] are = refl
decimal_none (c ∷ cs) are = cond-false (list_all is_ascii_digit (c ∷ cs)) (Some (number_of (c ∷ cs))) None (sym (digits_cons c cs) ∙ are)

abbrev usual : Limit
usual = (usual_limit, refl)

pub limit_none : (text : List ℕ) → are_digits is_ascii_digit text ≡ false → 1000 ≡ (limit_of (Some text)).0
limit_none text are = ap (λ (o : Option ℕ). (unwrap_or (o >>= in_limit) usual).0) (sym (decimal_none text are))

same_number : (text : List ℕ) (n : ℕ) → are_digits is_ascii_digit text ≡ true → n ≡ min (number_in 10 text) 1114112 → n ≡ min (number_of text) 1114112
same_number text n are e = e ∙ ap (λ (m : ℕ). min m 1114112) (number_same text (and_parts (not (eqb (length text) 0)) (list_all is_ascii_digit text) are).1)

pub limit_in : (text : List ℕ) (n : ℕ) → are_digits is_ascii_digit text ≡ true → n ≡ min (number_in 10 text) 1114112 → is_limit n ≡ true → n ≡ (limit_of (Some text)).0
limit_in text n are e h =
    let m = number_of text in
    let same : n ≡ m = small n m (same_number text n are e) h in
    let is : is_limit m ≡ true = ap is_limit (sym same) ∙ h in
    same ∙ sym (ap (λ (o : Option ℕ). (unwrap_or (o >>= in_limit) usual).0) (decimal_from text are) ∙ ap (λ (o : Option Limit). (unwrap_or o usual).0) (given_some (is_limit m) (λ in_range. (m, in_range)) is))
  where
    small : (n m : ℕ) → n ≡ min m 1114112 → is_limit n ≡ true → n ≡ m
    small n m e h = grind (arith, nat_tests)

pub limit_out : (text : List ℕ) (n : ℕ) → are_digits is_ascii_digit text ≡ true → n ≡ min (number_in 10 text) 1114112 → is_limit n ≡ false → 1000 ≡ (limit_of (Some text)).0
limit_out text n are e h =
    let m = number_of text in
    let is : is_limit m ≡ false = large n m (same_number text n are e) h in
    sym (ap (λ (o : Option ℕ). (unwrap_or (o >>= in_limit) usual).0) (decimal_from text are) ∙ ap (λ (o : Option Limit). (unwrap_or o usual).0) (given_none (is_limit m) (λ in_range. (m, in_range)) is))
  where
    large : (n m : ℕ) → n ≡ min m 1114112 → is_limit n ≡ false → is_limit m ≡ false
    large n m e h = grind (arith, nat_tests)

-- a project, by its parts
pub project_says : (root : Element) (libs options : List (List ℕ × List ℕ)) (sheets : List Sheet) (main : Option (List ℕ)) (strict : Bool) (limit : ℕ) (h : IsTrue (is_limit limit)) → each lib_of (children_named (codes "lib") root) ≡ Some libs → options_of (child_named (codes "options") root) ≡ Some options
    → each sheet_of (children_named (codes "circuit") root) ≡ Some sheets → ◌≡◌ {A = Option (Option (List ℕ))} (Some (child_named (codes "main") root >>= attribute (codes "name"))) (Some main) → strict ≡ is_error (value_under (codes "gateUndefined") options) → limit ≡ (limit_of (value_under (codes "simlimit") options)).0
    → project_of root ≡ Some (record { libs = libs; main = main; strict = strict; limit = limit; sheets = sheets; limit_in_range = h })
project_says root libs options sheets main strict limit h el eo es em et ei =
    let says : List (List ℕ × List ℕ) → List (List ℕ × List ℕ) → List Sheet → Option Project = λ ls os ss. Some (record {
      libs = ls;
      main = child_named (codes "main") root >>= attribute (codes "name");
      strict = is_error (value_under (codes "gateUndefined") os);
      limit = (limit_of (value_under (codes "simlimit") os)).0;
      sheets = ss;
      limit_in_range = (limit_of (value_under (codes "simlimit") os)).1;
    }) in
    let l = limit_of (value_under (codes "simlimit") options) in
    bind_at (each lib_of (children_named (codes "lib") root)) (λ ls. options_of (child_named (codes "options") root) >>= λ os. each sheet_of (children_named (codes "circuit") root) >>= λ ss. says ls os ss) libs el
    ∙ bind_at (options_of (child_named (codes "options") root)) (λ os. each sheet_of (children_named (codes "circuit") root) >>= λ ss. says libs os ss) options eo
    ∙ bind_at (each sheet_of (children_named (codes "circuit") root)) (λ ss. says libs options ss) sheets es
    ∙ ap (λ (m : Option (List ℕ)). Some (record { libs = libs; main = m; strict = is_error (value_under (codes "gateUndefined") options); limit = l.0; sheets = sheets; limit_in_range = l.1 })) (same_Some (child_named (codes "main") root >>= attribute (codes "name")) main em)
    ∙ ap (λ (t : Bool). Some (record { libs = libs; main = main; strict = t; limit = l.0; sheets = sheets; limit_in_range = l.1 })) (sym et)
    ∙ subst (λ (n : ℕ). (k : IsTrue (is_limit n)) → with_limit l.0 l.1 ≡ with_limit n k) (sym ei) (λ k. ap (with_limit l.0) (one_evidence (is_limit l.0) l.1 k)) h
  where
    with_limit : (n : ℕ) → IsTrue (is_limit n) → Option Project
    with_limit n k = Some (record { libs = libs; main = main; strict = strict; limit = n; sheets = sheets; limit_in_range = k })
