-- Where a mark stands first, comments and declarations: what was read is spelled so, and what is spelled so is read again.
use Rattle.std.proofs.Common.{◌≡◌, ℕ, zero, suc, ◌<◌, ◌≤◌, Bool, true, false, cond, eqb, List, [], ◌∷◌, ◌++◌, length, drop, Option, Some, None, Bor, refl, sym, ap, ◌∙◌, append_assoc, arith, inl, inr, ◌⊎◌}
use Rattle.std.specs.Prelude.{codes, is_some, not, MatchOption, nat_eq, option_map}
use Rattle.std.specs.List.{list_all, starts_with}
use Rattle.std.specs.Str.Pattern.{FindsText, SplitsAroundMatch, LacksTextAt}
use Rattle.std.proofs.lemmas.Bool.{and_parts, and_from, cases_Bool, eqb-true}
use Rattle.std.proofs.lemmas.Bool.Decides.{nat_tests}
use Rattle.lg_circ.specs.Grammar.{is_white, IsWhite, IsGap, lacks, IsDeclaration}
use Rattle.lg_circ.specs.Meaning.{◌>>=◌}
use Rattle.lg_circ.specs.Reading.{begins, after_mark, either, after_first, after_comment, after_declaration}
use Rattle.lg_circ.proofs.Marks.{bind_some, guard_some, none_from, after_mark_takes, after_mark_again}

-- the first of two that is there
either_none : {A : Type 0} (o other : Option A) → o ≡ None → either o other ≡ other
either_none o other e = ap (λ (x : Option _). either x other) e

either_some : {A : Type 0} (o other : Option A) (x : A) → o ≡ Some x → either o other ≡ Some x
either_some o other x e = ap (λ (y : Option _). either y other) e

pub either_cases : {A : Type 0} (o other : Option A) (x : A) → either o other ≡ Some x → (o ≡ Some x) ⊎ ((o ≡ None) × (other ≡ Some x))
either_cases None other x e = inr (refl, e)
either_cases (Some y) other x e = inl e

-- a mark that was found
found_at : (mark s rest : List ℕ) (i : ℕ) → ((k : ℕ) → k < i → LacksTextAt mark s k) → drop i s ≡ mark ++ rest → after_first mark s ≡ Some rest
found_at mark [] rest zero before at = ap (after_mark mark) at ∙ after_mark_again mark rest
found_at mark [] rest (suc i) before at = ap (after_mark mark) at ∙ after_mark_again mark rest
found_at mark (c ∷ cs) rest zero before at = either_some (after_mark mark (c ∷ cs)) (after_first mark cs) rest (ap (after_mark mark) at ∙ after_mark_again mark rest)
found_at mark (c ∷ cs) rest (suc i) before at =
    let here : after_mark mark (c ∷ cs) ≡ None = none_from (after_mark mark (c ∷ cs)) (λ r e. before 0 (omega arith) r (after_mark_takes mark (c ∷ cs) r e)) in
    either_none (after_mark mark (c ∷ cs)) (after_first mark cs) here ∙ found_at mark cs rest i (λ k lt. before (suc k) (omega (arith, lt))) at

-- a mark that stands nowhere
nowhere : (mark s : List ℕ) → ((k : ℕ) → k ≤ length s → LacksTextAt mark s k) → after_first mark s ≡ None
nowhere mark [] none = none_from (after_mark mark []) (λ r e. none 0 (omega arith) r (after_mark_takes mark [] r e))
nowhere mark (c ∷ cs) none =
    let here : after_mark mark (c ∷ cs) ≡ None = none_from (after_mark mark (c ∷ cs)) (λ r e. none 0 (omega arith) r (after_mark_takes mark (c ∷ cs) r e)) in
    either_none (after_mark mark (c ∷ cs)) (after_first mark cs) here ∙ nowhere mark cs (λ k le. none (suc k) (omega (arith, le)))

pub splits : (mark s : List ℕ) (r : Option (Bor (List ℕ) × Bor (List ℕ))) → MatchOption r (FindsText mark s None) (λ x. SplitsAroundMatch (FindsText mark) s x.0.now x.1.now) → after_first mark s ≡ option_map (λ (x : Bor (List ℕ) × Bor (List ℕ)). x.1.now) r
splits mark s None h = nowhere mark s h
splits mark s (Some x) h = found_at mark s x.1.now h.0 h.2.0 (h.2.1.split ∙ ap (λ (t : List ℕ). mark ++ t) (sym h.4))

-- marks of two bytes, as two tests see them
pub two_test : (a b : ℕ) (s : List ℕ) → starts_with nat_eq s (a ∷ b ∷ []) ≡ is_some (after_mark (a ∷ b ∷ []) s)
two_test a b [] = refl
two_test a b (c ∷ []) = grind (arith, nat_tests)
two_test a b (c ∷ d ∷ ds) = grind (arith, nat_tests)

-- whether a mark of two bytes stands is seen at two bytes
longer_test : (a b c d : ℕ) (ds es : List ℕ) → is_some (after_mark (a ∷ b ∷ []) (c ∷ d ∷ ds)) ≡ false → after_mark (a ∷ b ∷ []) (c ∷ d ∷ es) ≡ None
longer_test a b c d ds es h = both (eqb c a) (eqb d b) h
  where
    both : (s t : Bool) → is_some (cond s (cond t (Some ds) None) None) ≡ false → cond s (cond t (Some es) None) None ≡ None
    both true true e = absurd cc
    both true false e = refl
    both false t e = refl

-- where a mark of two bytes does not stand, it does not stand in less
shorter_test : (a b c : ℕ) (inside more : List ℕ) → is_some (after_mark (a ∷ b ∷ []) (c ∷ (inside ++ more))) ≡ false → is_some (after_mark (a ∷ b ∷ []) (c ∷ inside)) ≡ false
shorter_test a b c [] more h = grind (arith, nat_tests)
shorter_test a b c (d ∷ ds) more h = grind (arith, nat_tests, h)

none_test : (o : Option (List ℕ)) → o ≡ None → is_some o ≡ false
none_test o e = ap (λ (x : Option (List ℕ)). is_some x) e

test_none : (o : Option (List ℕ)) → is_some o ≡ false → o ≡ None
test_none None e = refl
test_none (Some x) e = absurd cc

-- one more byte before what lacks a mark
lacks_cons : (a b c : ℕ) (cs : List ℕ) → is_some (after_mark (a ∷ b ∷ []) (c ∷ cs)) ≡ false → lacks (a ∷ b ∷ []) cs ≡ true → lacks (a ∷ b ∷ []) (c ∷ cs) ≡ true
lacks_cons a b c cs here more = let e = two_test a b (c ∷ cs) in and_from (not (starts_with nat_eq (c ∷ cs) (a ∷ b ∷ []))) (lacks (a ∷ b ∷ []) cs) (ap (λ (x : Bool). not x) (e ∙ here)) more

lacks_parts : (a b c : ℕ) (cs : List ℕ) → lacks (a ∷ b ∷ []) (c ∷ cs) ≡ true → (is_some (after_mark (a ∷ b ∷ []) (c ∷ cs)) ≡ false) × (lacks (a ∷ b ∷ []) cs ≡ true)
lacks_parts a b c cs h =
    let p = and_parts (not (starts_with nat_eq (c ∷ cs) (a ∷ b ∷ []))) (lacks (a ∷ b ∷ []) cs) h in
    (sym (two_test a b (c ∷ cs)) ∙ not_true (starts_with nat_eq (c ∷ cs) (a ∷ b ∷ [])) p.0, p.1)
  where
    not_true : (x : Bool) → not x ≡ true → x ≡ false
    not_true true e = absurd cc
    not_true false e = refl

-- what lacks a mark lacks it without the end
pub lacks_front : (a b : ℕ) (inside more : List ℕ) → lacks (a ∷ b ∷ []) (inside ++ more) ≡ true → lacks (a ∷ b ∷ []) inside ≡ true
lacks_front a b [] more h = refl
lacks_front a b (c ∷ cs) more h =
    let p = lacks_parts a b c (cs ++ more) h in
    lacks_cons a b c cs (shorter_test a b c cs more p.0) (lacks_front a b cs more p.1)

-- what stands before the first place of a mark
pub record TakesFirst (a b : ℕ) (s rest : List ℕ) : Type 0 where
  pub inside : List ℕ
  pub lacking : lacks (a ∷ b ∷ []) (inside ++ a ∷ []) ≡ true
  pub parts : s ≡ inside ++ (a ∷ b ∷ rest)

one_lacks : (a b c : ℕ) → lacks (a ∷ b ∷ []) (c ∷ []) ≡ true
one_lacks a b c = lacks_cons a b c [] (single (eqb c a)) refl
  where
    single : (t : Bool) → is_some (cond t (after_mark (b ∷ []) []) None) ≡ false
    single true = refl
    single false = refl

pub first_takes : (a b : ℕ) (s rest : List ℕ) → after_first (a ∷ b ∷ []) s ≡ Some rest → TakesFirst a b s rest
first_takes a b [] rest e = absurd cc
first_takes a b (c ∷ cs) rest e =
    elim (either_cases (after_mark (a ∷ b ∷ []) (c ∷ cs)) (after_first (a ∷ b ∷ []) cs) rest e) [
      | inl w ↦ record { inside = []; lacking = one_lacks a b a; parts = after_mark_takes (a ∷ b ∷ []) (c ∷ cs) rest w }
      | inr w ↦
          let t = first_takes a b cs rest w.1 in
          let here : is_some (after_mark (a ∷ b ∷ []) (c ∷ ((t.inside ++ a ∷ []) ++ b ∷ rest))) ≡ false =
          ap (λ (x : List ℕ). is_some (after_mark (a ∷ b ∷ []) (c ∷ x))) (append_assoc t.inside (a ∷ []) (b ∷ rest) ∙ sym t.parts) ∙ none_test _ w.0 in
          record {
            inside = c ∷ t.inside;
            lacking = lacks_cons a b c (t.inside ++ a ∷ []) (shorter_test a b c (t.inside ++ a ∷ []) (b ∷ rest) here) t.lacking;
            parts = ap (λ (x : List ℕ). c ∷ x) t.parts;
          }
    ]

-- a mark of two bytes that differ is found where it stands first
pub first_again : (a b : ℕ) (inside rest : List ℕ) → eqb a b ≡ false → lacks (a ∷ b ∷ []) inside ≡ true → after_first (a ∷ b ∷ []) (inside ++ (a ∷ b ∷ rest)) ≡ Some rest
first_again a b [] rest differ h = either_some (after_mark (a ∷ b ∷ []) (a ∷ b ∷ rest)) (after_first (a ∷ b ∷ []) (b ∷ rest)) rest (after_mark_again (a ∷ b ∷ []) rest)
first_again a b (c ∷ []) rest differ h =
    let here : after_mark (a ∷ b ∷ []) (c ∷ a ∷ b ∷ rest) ≡ None = overlaps (eqb c a) in
    either_none (after_mark (a ∷ b ∷ []) (c ∷ a ∷ b ∷ rest)) (after_first (a ∷ b ∷ []) (a ∷ b ∷ rest)) here ∙ first_again a b [] rest differ refl
  where
    overlaps : (t : Bool) → cond t (cond (eqb a b) (Some (b ∷ rest)) None) None ≡ None
    overlaps true = ap (λ (x : Bool). cond x (Some (b ∷ rest)) None) differ
    overlaps false = refl
first_again a b (c ∷ d ∷ ds) rest differ h =
    let p = lacks_parts a b c (d ∷ ds) h in
    either_none (after_mark (a ∷ b ∷ []) (c ∷ d ∷ (ds ++ (a ∷ b ∷ rest)))) (after_first (a ∷ b ∷ []) (d ∷ (ds ++ (a ∷ b ∷ rest)))) (longer_test a b c d ds (ds ++ (a ∷ b ∷ rest)) p.0)
    ∙ first_again a b (d ∷ ds) rest differ p.1

-- what follows the end of a comment behind its `--`
abbrev comment_end : List ℕ → Option (List ℕ)
comment_end end = either (after_mark (codes ">") end) (after_mark (codes "->") end)

pub record TakesComment (bytes rest : List ℕ) : Type 0 where
  pub inside : List ℕ
  pub lacking : lacks (codes "--") inside ≡ true
  pub parts : bytes ≡ (codes "<!--" ++ inside ++ codes "-->") ++ rest

pub comment_takes : (bytes rest : List ℕ) → after_comment bytes ≡ Some rest → TakesComment bytes rest
unfolding after_comment
comment_takes bytes rest e =
    let a = bind_some (after_mark (codes "<!--") bytes) (λ start. after_first (codes "--") start >>= λ end. comment_end end) rest e in
    let b = bind_some (after_first (codes "--") a.0) (λ end. comment_end end) rest a.2 in
    let t = first_takes 45 45 a.0 b.0 b.1 in
    let start = after_mark_takes (codes "<!--") bytes a.0 a.1 in
    elim (either_cases (after_mark (codes ">") b.0) (after_mark (codes "->") b.0) rest b.2) [
      | inl w ↦
          let whole : bytes ≡ codes "<!--" ++ (t.inside ++ (45 ∷ 45 ∷ 62 ∷ rest)) = start ∙ ap (λ (x : List ℕ). codes "<!--" ++ x) (t.parts ∙ ap (λ (x : List ℕ). t.inside ++ (45 ∷ 45 ∷ x)) (after_mark_takes (codes ">") b.0 rest w)) in
          record { inside = t.inside; lacking = lacks_front 45 45 t.inside (45 ∷ []) t.lacking; parts = whole ∙ sym (simp append_assoc) }
      | inr w ↦
          let whole : bytes ≡ codes "<!--" ++ (t.inside ++ (45 ∷ 45 ∷ 45 ∷ 62 ∷ rest)) = start ∙ ap (λ (x : List ℕ). codes "<!--" ++ x) (t.parts ∙ ap (λ (x : List ℕ). t.inside ++ (45 ∷ 45 ∷ x)) (after_mark_takes (codes "->") b.0 rest w.1)) in
          record { inside = t.inside ++ 45 ∷ []; lacking = t.lacking; parts = whole ∙ sym (simp append_assoc) }
    ]

comment_ends : (inside rest : List ℕ) → lacks (codes "--") inside ≡ true → (after_first (codes "--") (inside ++ (45 ∷ 45 ∷ 62 ∷ rest)) >>= λ end. comment_end end) ≡ Some rest
comment_ends [] rest h = refl
comment_ends (c ∷ []) rest h = by_byte (cases_Bool (eqb c 45))
  where
    by_byte : (eqb c 45 ≡ true) ⊎ (eqb c 45 ≡ false) → (after_first (codes "--") (c ∷ 45 ∷ 45 ∷ 62 ∷ rest) >>= λ end. comment_end end) ≡ Some rest
    by_byte (inl e) = ap (λ (d : ℕ). after_first (codes "--") (d ∷ 45 ∷ 45 ∷ 62 ∷ rest) >>= λ end. comment_end end) (eqb-true c 45 e)
    by_byte (inr e) =
        ap (λ (o : Option (List ℕ)). o >>= λ end. comment_end end) (either_none (after_mark (codes "--") (c ∷ 45 ∷ 45 ∷ 62 ∷ rest)) (after_first (codes "--") (45 ∷ 45 ∷ 62 ∷ rest)) (ap (λ (b : Bool). cond b (Some (45 ∷ 62 ∷ rest)) None) e))
comment_ends (c ∷ d ∷ ds) rest h =
    let p = lacks_parts 45 45 c (d ∷ ds) h in
    let more : List ℕ = ds ++ (45 ∷ 45 ∷ 62 ∷ rest) in
    ap (λ (o : Option (List ℕ)). o >>= λ end. comment_end end) (either_none (after_mark (codes "--") (c ∷ d ∷ more)) (after_first (codes "--") (d ∷ more)) (longer_test 45 45 c d ds more p.0))
    ∙ comment_ends (d ∷ ds) rest p.1

pub comment_again : (inside rest : List ℕ) → lacks (codes "--") inside ≡ true → after_comment ((codes "<!--" ++ inside ++ codes "-->") ++ rest) ≡ Some rest
unfolding after_comment
comment_again inside rest h =
    let grouped : (codes "<!--" ++ inside ++ codes "-->") ++ rest ≡ codes "<!--" ++ (inside ++ (45 ∷ 45 ∷ 62 ∷ rest)) = simp append_assoc in
    ap (λ (t : List ℕ). after_mark (codes "<!--") t >>= λ start. after_first (codes "--") start >>= λ end. comment_end end) grouped
    ∙ comment_ends inside rest h

-- white space lacks a mark that begins with none
gap_lacks : (gap inside : List ℕ) → IsWhite gap → lacks (codes "?>") inside ≡ true → lacks (codes "?>") (gap ++ inside) ≡ true
gap_lacks [] inside w h = h
gap_lacks (c ∷ cs) inside w h =
    let b = and_parts (is_white c) (list_all is_white cs) w in
    lacks_cons 63 62 c (cs ++ inside) (no_mark c (cs ++ inside) (white_other c b.0)) (gap_lacks cs inside b.1 h)
  where
    white_other : (c : ℕ) → is_white c ≡ true → eqb c 63 ≡ false
    white_other c h = grind (arith, nat_tests)

    no_mark : (c : ℕ) (cs : List ℕ) → eqb c 63 ≡ false → is_some (after_mark (63 ∷ 62 ∷ []) (c ∷ cs)) ≡ false
    no_mark c cs e = ap (λ (b : Bool). is_some (cond b (after_mark (62 ∷ []) cs) None)) e

-- what is read of a declaration
pub declaration_takes : (bytes rest : List ℕ) → after_declaration bytes ≡ Some rest → (text : List ℕ) × IsDeclaration text × (bytes ≡ text ++ rest)
unfolding after_declaration
declaration_takes bytes rest e =
    let a = bind_some (after_mark (codes "<?xml") bytes) (λ start. cond (begins is_white start) (after_first (codes "?>") start) None) rest e in
    let g = guard_some (begins is_white a.0) (after_first (codes "?>") a.0) rest a.2 in
    let t = first_takes 63 62 a.0 rest g.1 in
    let start = after_mark_takes (codes "<?xml") bytes a.0 a.1 in
    by_inside bytes rest a.0 t.inside t.lacking t.parts start g.0
  where
    by_inside : (bytes rest start inside : List ℕ) → lacks (63 ∷ 62 ∷ []) (inside ++ 63 ∷ []) ≡ true → start ≡ inside ++ (63 ∷ 62 ∷ rest) → bytes ≡ codes "<?xml" ++ start → begins is_white start ≡ true → (text : List ℕ) × IsDeclaration text × (bytes ≡ text ++ rest)
    by_inside bytes rest start [] lacking parts whole white = let no : begins is_white (63 ∷ 62 ∷ rest) ≡ true = ap (begins is_white) (sym parts) ∙ white in absurd cc
    by_inside bytes rest start (c ∷ cs) lacking parts whole white =
        let white_first : is_white c ≡ true = ap (begins is_white) (sym parts) ∙ white in
        let p = lacks_parts 63 62 c (cs ++ 63 ∷ []) lacking in
        let text : List ℕ = codes "<?xml" ++ (c ∷ []) ++ cs ++ codes "?>" in
        let grouped : text ++ rest ≡ codes "<?xml" ++ (c ∷ (cs ++ (63 ∷ 62 ∷ rest))) = simp append_assoc in
        (text, inr (c ∷ [], cs, (and_from (is_white c) true white_first refl, omega arith), lacks_front 63 62 cs (63 ∷ []) p.1, refl), whole ∙ ap (λ (t : List ℕ). codes "<?xml" ++ t) parts ∙ sym grouped)

pub declaration_again : (gap inside rest : List ℕ) → IsGap gap → lacks (codes "?>") inside ≡ true → after_declaration ((codes "<?xml" ++ gap ++ inside ++ codes "?>") ++ rest) ≡ Some rest
unfolding after_declaration
declaration_again gap inside rest w h =
    let grouped : (codes "<?xml" ++ gap ++ inside ++ codes "?>") ++ rest ≡ codes "<?xml" ++ ((gap ++ inside) ++ (63 ∷ 62 ∷ rest)) = simp append_assoc in
    ap (λ (t : List ℕ). after_mark (codes "<?xml") t >>= λ start. cond (begins is_white start) (after_first (codes "?>") start) None) grouped
    ∙ ap (λ (b : Bool). cond b (after_first (codes "?>") ((gap ++ inside) ++ (63 ∷ 62 ∷ rest))) None) (begins_white gap w)
    ∙ first_again 63 62 (gap ++ inside) rest refl (gap_lacks gap inside w.0 h)
  where
    begins_white : (gap : List ℕ) → IsGap gap → begins is_white ((gap ++ inside) ++ (63 ∷ 62 ∷ rest)) ≡ true
    begins_white [] w = absurd (omega (arith, w.1))
    begins_white (c ∷ cs) w = (and_parts (is_white c) (list_all is_white cs) w.0).0
