use Rattle.std.proofs.Common.{rules, ◌≡◌, ◌∙◌, ◌++◌, ℕ, List, sym, ap, Some, None}
use Rattle.std.specs.Prelude.{codes, string_bytes}
use Rattle.std.specs.Char.{encode_utf8}
use Rattle.std.proofs.lemmas.Result.{err_from_is_err_and}
use Rattle.lg_circ.specs.declared.class.Class.TheVariants.{Own}
use Rattle.lg_circ.specs.Reading.{passes, front_of, rest_of, after_mark, said_after, said_of}
use Rattle.lg_circ.proofs.Loops.{said_start, said_goes_on, said_ends, said_fails, reference_shorter}
use Rattle.lg_circ.proofs.character.say.Goals as goal

pub references-init : goal.references-init
references-init c = (c.utf8.raw, said_start (string_bytes c.args.said) c.args.raw.now)

pub returns-in-None : goal.returns-in-None
returns-in-None c =
    let none : after_mark (codes "&") (rest_of (passes Own) c.references.rest.now) ≡ None = ap (after_mark (codes "&")) (sym c.split_after.ensures.rest) ∙ sym c.in-None.ensures in
    let pushed : string_bytes c.push_str.new.self ≡ string_bytes c.references.said ++ front_of (passes Own) c.references.rest.now = c.in_ok-push_str.ensures.bytes ∙ ap (λ (f : List ℕ). string_bytes c.references.said ++ f) c.split_after.ensures.front in
    said_ends (string_bytes c.references.said) c.references.rest.now (said_after (string_bytes c.args.said) (said_of c.args.raw.now)) none c.references.invariant.1 ∙ ap (λ (t : List ℕ). Some t) (sym pushed)

pub returns-in_err-c-in-Some : goal.returns-in_err-c-in-Some
returns-in_err-c-in-Some c =
    let found : after_mark (codes "&") (rest_of (passes Own) c.references.rest.now) ≡ Some c.in-Some.more.now = ap (after_mark (codes "&")) (sym c.split_after.ensures.rest) ∙ sym c.in-Some.ensures in
    let p = err_from_is_err_and c.from_residual-in_err-c-in-Some.result c.from_residual-in_err-c-in-Some.ensures.1 in
    rw (p.1, p.2) (said_fails c.in_err-c-in-Some.field-0.0 (string_bytes c.references.said) c.references.rest.now c.in-Some.more.now (said_after (string_bytes c.args.said) (said_of c.args.raw.now)) found c.in_err-c-in-Some.ensures c.references.invariant.1)

pub references-smaller : goal.references-smaller
references-smaller c =
    let found : after_mark (codes "&") (rest_of (passes Own) c.references.rest.now) ≡ Some c.in-Some.more.now = ap (after_mark (codes "&")) (sym c.split_after.ensures.rest) ∙ sym c.in-Some.ensures in
    reference_shorter c.references.rest.now c.in-Some.more.now c.in_ok-c-in-Some.behind.now c.in_ok-c-in-Some.c found c.in_ok-c-in-Some.ensures

pub references-preserved : goal.references-preserved
references-preserved c =
    let found : after_mark (codes "&") (rest_of (passes Own) c.references.rest.now) ≡ Some c.in-Some.more.now = ap (after_mark (codes "&")) (sym c.split_after.ensures.rest) ∙ sym c.in-Some.ensures in
    let said = string_bytes c.references.said in
    let pushed : string_bytes c.push.new.self ≡ (said ++ front_of (passes Own) c.references.rest.now) ++ encode_utf8 c.in_ok-c-in-Some.c =
    c.in_ok-push-in-Some.ensures.bytes ∙ ap (λ (t : List ℕ). t ++ encode_utf8 c.in_ok-c-in-Some.c) (c.in_ok-push_str.ensures.bytes ∙ ap (λ (f : List ℕ). said ++ f) c.split_after.ensures.front) in
    (search rules, rw pushed (said_goes_on said c.references.rest.now c.in-Some.more.now c.in_ok-c-in-Some.behind.now c.in_ok-c-in-Some.c (said_after (string_bytes c.args.said) (said_of c.args.raw.now)) found c.in_ok-c-in-Some.ensures c.references.invariant.1))
