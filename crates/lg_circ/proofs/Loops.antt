-- What the loops of the reader keep.
use Rattle.std.proofs.Common.{◌≡◌, ℕ, zero, suc, ◌<◌, ◌≤◌, Bool, true, false, eqb, List, [], ◌∷◌, ◌++◌, length, Option, Some, None, refl, sym, ap, ◌∙◌, append_assoc, arith, ◌↔◌}
use Rattle.std.specs.Prelude.{IsTrue, codes}
use Rattle.std.specs.Char.{encode_utf8}
use Rattle.std.proofs.lemmas.Bool.{eqb-true}
use Rattle.std.proofs.lemmas.List.{length-append, append-nil, nil_from_length}
use Rattle.lg_circ.specs.Grammar.{is_white, IsMisc}
use Rattle.lg_circ.specs.Meaning.{◌>>=◌}
use Rattle.lg_circ.specs.declared.fault.CircFault.{CircFault}
use Rattle.lg_circ.specs.declared.fault.CircFault.TheVariants.{TooLong, TooDeep, NotProject, Memory}
use Rattle.lg_circ.specs.declared.class.Class.TheVariants.{Own}
use Rattle.lg_circ.specs.Reading.{Fails, ends_tag, begins, attribute_at, attributes_at, passes, front_of, rest_of, after_mark, after_comment, on_after, after_misc, reference_at, said_behind, said_by, said_of, said_after}
use Rattle.lg_circ.proofs.Marks.{after_mark_takes}
use Rattle.lg_circ.proofs.Pieces.{bind_at, front_rest}
use Rattle.std.proofs.lemmas.Bool.{cond-true, cond-false}
use Rattle.lg_circ.proofs.Said.{reference_takes}
use Rattle.lg_circ.proofs.Tags.{attribute_takes}
use Rattle.lg_circ.proofs.First.{comment_takes}
use Rattle.lg_circ.proofs.Roots.{misc_all, all_misc}

-- skipping goes on from here as from the start
pub record ReadsMisc (start bytes : List ℕ) : Type 0 where
  pub count : ℕ
  pub enough : length bytes < count
  pub same : after_misc count bytes ≡ after_misc (suc (length start)) start

pub misc_start : (start : List ℕ) → ReadsMisc start start
misc_start start = record { count = suc (length start); enough = omega arith; same = refl }

rest_shorter : (p : ℕ → Bool) (bytes : List ℕ) → length (rest_of p bytes) ≤ length bytes
rest_shorter p bytes = let l = simp length-append at (ap (λ (t : List ℕ). length t) (front_rest p bytes)) in omega (arith, l)

pub comment_shorter : (bytes rest : List ℕ) → after_comment bytes ≡ Some rest → length rest < length bytes
comment_shorter bytes rest e =
    let t = comment_takes bytes rest e in
    let l = simp length-append at (ap (λ (y : List ℕ). length y) t.parts) in
    omega (arith, l)

pub misc_shorter : (bytes rest : List ℕ) → after_comment (rest_of is_white bytes) ≡ Some rest → length rest < length bytes
misc_shorter bytes rest e = let l = rest_shorter is_white bytes in let k = comment_shorter (rest_of is_white bytes) rest e in omega (arith, l, k)

pub misc_goes_on : (start bytes rest : List ℕ) → after_comment (rest_of is_white bytes) ≡ Some rest → ReadsMisc start bytes → ReadsMisc start rest
unfolding after_misc
misc_goes_on start bytes rest e so_far = from so_far.count so_far.enough so_far.same
  where
    from : (count : ℕ) → length bytes < count → after_misc count bytes ≡ after_misc (suc (length start)) start → ReadsMisc start rest
    from zero lt same = absurd (omega (arith, lt))
    from (suc n) lt same =
        let shorter = misc_shorter bytes rest e in
        record { count = n; enough = omega (arith, shorter, lt); same = ap (λ (o : Option (List ℕ)). on_after o (after_misc n) (rest_of is_white bytes)) (sym e) ∙ same }

pub misc_ends : (start bytes : List ℕ) → after_comment (rest_of is_white bytes) ≡ None → ReadsMisc start bytes → rest_of is_white bytes ≡ after_misc (suc (length start)) start
unfolding after_misc
misc_ends start bytes e so_far = from so_far.count so_far.enough so_far.same
  where
    from : (count : ℕ) → length bytes < count → after_misc count bytes ≡ after_misc (suc (length start)) start → rest_of is_white bytes ≡ after_misc (suc (length start)) start
    from zero lt same = absurd (omega (arith, lt))
    from (suc n) lt same = ap (λ (o : Option (List ℕ)). on_after o (after_misc n) (rest_of is_white bytes)) (sym e) ∙ same

-- nothing is left just where there are white space and comments alone
pub misc_told : (bytes rest : List ℕ) (result : Bool) → rest ≡ after_misc (suc (length bytes)) bytes → result ≡ eqb (length rest) 0 → IsTrue result ↔ IsMisc bytes
misc_told bytes rest result e h = (
  λ t. all_misc bytes (sym e ∙ nil_from_length rest (eqb-true (length rest) 0 (sym h ∙ t))),
  λ m. h ∙ ap (λ (r : List ℕ). eqb (length r) 0) (e ∙ misc_all bytes m),
)

-- what was said, and what is said from here on, are the whole
pub record ReadsSaid (said bytes : List ℕ) (total : Option (List ℕ)) : Type 0 where
  pub count : ℕ
  pub enough : length bytes < count
  pub same : said_after said (said_by count bytes) ≡ total

pub said_start : (said raw : List ℕ) → ReadsSaid said raw (said_after said (said_of raw))
unfolding said_of
said_start said raw = record { count = suc (length raw); enough = omega arith; same = refl }

own_rest : (bytes : List ℕ) → length (rest_of (passes Own) bytes) ≤ length bytes
own_rest bytes = rest_shorter (passes Own) bytes

pub reference_shorter : (bytes more rest : List ℕ) (c : ℕ) → after_mark (codes "&") (rest_of (passes Own) bytes) ≡ Some more → reference_at more ≡ Some (c, rest) → length rest < length bytes
reference_shorter bytes more rest c e k =
    let a = ap (λ (t : List ℕ). length t) (after_mark_takes (codes "&") (rest_of (passes Own) bytes) more e) in
    let t = reference_takes more c rest k in
    let b = simp length-append at (ap (λ (t : List ℕ). length t) t.parts) in
    let o = own_rest bytes in
    omega (arith, a, b, o)

regroup_said : (said front text : List ℕ) (o : Option (List ℕ)) → said_after said (o >>= λ others. Some (front ++ text ++ others)) ≡ said_after ((said ++ front) ++ text) o
regroup_said said front text None = refl
regroup_said said front text (Some others) = ap (λ (t : List ℕ). Some t) (sym (append_assoc said (front ++ text) others) ∙ ap (λ (t : List ℕ). t ++ others) (sym (append_assoc said front text)))

pub said_goes_on : (said bytes more rest : List ℕ) (c : ℕ) (total : Option (List ℕ)) → after_mark (codes "&") (rest_of (passes Own) bytes) ≡ Some more → reference_at more ≡ Some (c, rest) → ReadsSaid said bytes total
    → ReadsSaid ((said ++ front_of (passes Own) bytes) ++ encode_utf8 c) rest total
unfolding said_by
said_goes_on said bytes more rest c total e k so_far = from so_far.count so_far.enough so_far.same
  where
    from : (count : ℕ) → length bytes < count → said_after said (said_by count bytes) ≡ total → ReadsSaid ((said ++ front_of (passes Own) bytes) ++ encode_utf8 c) rest total
    from zero lt same = absurd (omega (arith, lt))
    from (suc n) lt same =
        let shorter = reference_shorter bytes more rest c e k in
        let front = front_of (passes Own) bytes in
        let step : said_by (suc n) bytes ≡ (said_by n rest >>= λ others. Some (front ++ encode_utf8 c ++ others)) =
        ap (λ (o : Option (List ℕ)). said_behind (said_by n) front o) e ∙ bind_at (reference_at more) (λ x. said_by n x.1 >>= λ others. Some (front ++ encode_utf8 x.0 ++ others)) (c, rest) k in
        record { count = n; enough = omega (arith, shorter, lt); same = sym (regroup_said said front (encode_utf8 c) (said_by n rest)) ∙ ap (said_after said) (sym step) ∙ same }

pub said_ends : (said bytes : List ℕ) (total : Option (List ℕ)) → after_mark (codes "&") (rest_of (passes Own) bytes) ≡ None → ReadsSaid said bytes total → total ≡ Some (said ++ front_of (passes Own) bytes)
unfolding said_by
said_ends said bytes total e so_far = from so_far.count so_far.enough so_far.same
  where
    from : (count : ℕ) → length bytes < count → said_after said (said_by count bytes) ≡ total → total ≡ Some (said ++ front_of (passes Own) bytes)
    from zero lt same = absurd (omega (arith, lt))
    from (suc n) lt same = sym same ∙ ap (λ (o : Option (List ℕ)). said_after said (said_behind (said_by n) (front_of (passes Own) bytes) o)) e

pub said_fails : (fault : CircFault) (said bytes more : List ℕ) (total : Option (List ℕ)) → after_mark (codes "&") (rest_of (passes Own) bytes) ≡ Some more → Fails fault (reference_at more) → ReadsSaid said bytes total → Fails fault total
unfolding said_by
said_fails Memory said bytes more total e k so_far = tt
said_fails TooLong said bytes more total e k so_far = absurd k
said_fails TooDeep said bytes more total e k so_far = absurd k
said_fails NotProject said bytes more total e k so_far = from so_far.count so_far.enough so_far.same
  where
    from : (count : ℕ) → length bytes < count → said_after said (said_by count bytes) ≡ total → total ≡ None
    from zero lt same = absurd (omega (arith, lt))
    from (suc n) lt same =
        let front = front_of (passes Own) bytes in
        sym same ∙ ap (λ (o : Option (List ℕ)). said_after said (said_behind (said_by n) front o)) e
        ∙ ap (λ (o : Option (ℕ × List ℕ)). said_after said (o >>= λ x. said_by n x.1 >>= λ others. Some (front ++ encode_utf8 x.0 ++ others))) k

abbrev pub with_front : List (List ℕ × List ℕ) → Option (List (List ℕ × List ℕ) × List ℕ) → Option (List (List ℕ × List ℕ) × List ℕ)
with_front front read = read >>= λ x. Some (front ++ x.0, x.1)

-- the attributes before, and what is read from here, are the whole
pub record ReadsAttributes (front : List (List ℕ × List ℕ)) (bytes : List ℕ) (total : Option (List (List ℕ × List ℕ) × List ℕ)) : Type 0 where
  pub count : ℕ
  pub enough : length bytes < count
  pub same : with_front front (attributes_at count bytes) ≡ total

no_front : (read : Option (List (List ℕ × List ℕ) × List ℕ)) → with_front [] read ≡ read
no_front None = refl
no_front (Some x) = refl

pub attributes_start : (bytes : List ℕ) → ReadsAttributes [] bytes (attributes_at (suc (length bytes)) bytes)
attributes_start bytes = record { count = suc (length bytes); enough = omega arith; same = no_front (attributes_at (suc (length bytes)) bytes) }

regroup : (front : List (List ℕ × List ℕ)) (a : List ℕ × List ℕ) (read : Option (List (List ℕ × List ℕ) × List ℕ)) → with_front front (read >>= λ x. Some (a ∷ x.0, x.1)) ≡ with_front (front ++ a ∷ []) read
regroup front a None = refl
regroup front a (Some x) = ap (λ (ys : List (List ℕ × List ℕ)). Some (ys, x.1)) (sym (append_assoc front (a ∷ []) x.0))

-- with a count above 0 reading is a step
attributes_step : (n : ℕ) (bytes : List ℕ) → begins ends_tag (rest_of is_white bytes) ≡ false → attributes_at (suc n) bytes ≡ (attribute_at bytes >>= λ first. attributes_at n first.1 >>= λ others. Some (first.0 ∷ others.0, others.1))
unfolding attributes_at
attributes_step n bytes e = cond-false (begins ends_tag (rest_of is_white bytes)) (Some ([], rest_of is_white bytes)) (attribute_at bytes >>= λ first. attributes_at n first.1 >>= λ others. Some (first.0 ∷ others.0, others.1)) e

attributes_stop : (n : ℕ) (bytes : List ℕ) → begins ends_tag (rest_of is_white bytes) ≡ true → attributes_at (suc n) bytes ≡ Some ([], rest_of is_white bytes)
unfolding attributes_at
attributes_stop n bytes e = cond-true (begins ends_tag (rest_of is_white bytes)) (Some ([], rest_of is_white bytes)) (attribute_at bytes >>= λ first. attributes_at n first.1 >>= λ others. Some (first.0 ∷ others.0, others.1)) e

pub attribute_shorter : (bytes : List ℕ) (a : List ℕ × List ℕ) (after : List ℕ) → attribute_at bytes ≡ Some (a, after) → length after < length bytes
attribute_shorter bytes a after e =
    let t = attribute_takes bytes (a, after) e in
    let l = simp length-append at (ap (λ (x : List ℕ). length x) t.2) in
    let s = simp length-append at (ap (λ (x : List ℕ). length x) t.1.spelled) in
    omega (arith, l, s, t.1.is_gap.1)

pub attributes_go_on : (front : List (List ℕ × List ℕ)) (bytes : List ℕ) (a : List ℕ × List ℕ) (after : List ℕ) (total : Option (List (List ℕ × List ℕ) × List ℕ)) → begins ends_tag (rest_of is_white bytes) ≡ false → attribute_at bytes ≡ Some (a, after)
    → ReadsAttributes front bytes total → ReadsAttributes (front ++ a ∷ []) after total
attributes_go_on front bytes a after total goes read so_far = from so_far.count so_far.enough so_far.same
  where
    from : (count : ℕ) → length bytes < count → with_front front (attributes_at count bytes) ≡ total → ReadsAttributes (front ++ a ∷ []) after total
    from zero lt same = absurd (omega (arith, lt))
    from (suc n) lt same =
        let shorter = attribute_shorter bytes a after read in
        let step : attributes_at (suc n) bytes ≡ (attributes_at n after >>= λ others. Some (a ∷ others.0, others.1)) = attributes_step n bytes goes ∙ bind_at (attribute_at bytes) (λ first. attributes_at n first.1 >>= λ others. Some (first.0 ∷ others.0, others.1)) (a, after) read in
        record { count = n; enough = omega (arith, shorter, lt); same = sym (regroup front a (attributes_at n after)) ∙ ap (with_front front) (sym step) ∙ same }

pub attributes_fail : (fault : CircFault) (front : List (List ℕ × List ℕ)) (bytes : List ℕ) (total : Option (List (List ℕ × List ℕ) × List ℕ)) → begins ends_tag (rest_of is_white bytes) ≡ false → Fails fault (attribute_at bytes)
    → ReadsAttributes front bytes total → Fails fault total
attributes_fail Memory front bytes total goes fails so_far = tt
attributes_fail TooLong front bytes total goes fails so_far = absurd fails
attributes_fail TooDeep front bytes total goes fails so_far = absurd fails
attributes_fail NotProject front bytes total goes fails so_far = from so_far.count so_far.enough so_far.same
  where
    from : (count : ℕ) → length bytes < count → with_front front (attributes_at count bytes) ≡ total → total ≡ None
    from zero lt same = absurd (omega (arith, lt))
    from (suc n) lt same =
        sym same ∙ ap (with_front front) (attributes_step n bytes goes ∙ ap (λ (o : Option ((List ℕ × List ℕ) × List ℕ)). o >>= λ first. attributes_at n first.1 >>= λ others. Some (first.0 ∷ others.0, others.1)) fails)

pub attributes_end : (front : List (List ℕ × List ℕ)) (bytes : List ℕ) (total : Option (List (List ℕ × List ℕ) × List ℕ)) → begins ends_tag (rest_of is_white bytes) ≡ true → ReadsAttributes front bytes total → total ≡ Some (front, rest_of is_white bytes)
attributes_end front bytes total ends so_far = from so_far.count so_far.enough so_far.same
  where
    from : (count : ℕ) → length bytes < count → with_front front (attributes_at count bytes) ≡ total → total ≡ Some (front, rest_of is_white bytes)
    from zero lt same = absurd (omega (arith, lt))
    from (suc n) lt same = sym same ∙ ap (with_front front) (attributes_stop n bytes ends) ∙ ap (λ (ys : List (List ℕ × List ℕ)). Some (ys, rest_of is_white bytes)) (append-nil front)
