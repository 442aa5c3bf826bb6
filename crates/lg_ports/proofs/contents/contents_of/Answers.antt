use Rattle.std.proofs.Common.{◌≡◌, ◌≢◌, ◌==◌, ◌*◌, ◌%◌, ◌^◌, ◌<◌, ◌≤◌, ◌⊎◌, ℕ, List, true, length, inl, inr, refl, sym, arith}
use Rattle.std.specs.Prelude.{MatchResult}
use Rattle.lg_memory.specs.declared.fault.ImageFault.TheVariants.{ImageTooLong}
use Rattle.lg_memory.specs.declared.fault.ImageFault.TheVariants.{Memory as NoMemory}
use Rattle.lg_ports.proofs.ContentsLemmas.{addresses, sizes_of, widths_there, words_read}
use Rattle.lg_ports.proofs.contents.contents_of.Goals as goal

pub unreachable-requires : goal.unreachable-requires
unreachable-requires c =
    let some : length c.args.text.now ≢ 0 = λ e. let empty : (length c.args.text.now == 0) ≡ true = rw e refl in cc (empty, c.is_empty.ensures, c.if-is_empty.false) in
    widths_there c.args.address c.args.width c.args.text.now c.requires some c.in_default.ensures

pub unreachable-requires-in-Err-NotImage : goal.unreachable-requires-in-Err-NotImage
unreachable-requires-in-Err-NotImage c =
    let some : length c.args.text.now ≢ 0 = λ e. let empty : (length c.args.text.now == 0) ≡ true = rw e refl in cc (empty, c.is_empty.ensures, c.if-is_empty.false) in
    let arm = c.in-Err-NotImage in
    (words_read c.args.address c.args.width c.args.text.now c.in-Some.rest.now (λ all. ⊥) c.requires some c.in-Some.ensures (λ all has few. arm.ensures.not_image (cc arm.field-0-is) all has)).1

pub unreachable-requires-in-Err-ImageTooLong : goal.unreachable-requires-in-Err-ImageTooLong
unreachable-requires-in-Err-ImageTooLong c =
    let some : length c.args.text.now ≢ 0 = λ e. let empty : (length c.args.text.now == 0) ≡ true = rw e refl in cc (empty, c.is_empty.ensures, c.if-is_empty.false) in
    let arm = c.in-Err-ImageTooLong in
    let limit = addresses c.args.address (sizes_of c.args.address c.args.width c.args.text.now c.requires some).1 in
    (words_read c.args.address c.args.width c.args.text.now c.in-Some.rest.now (λ all. ⊥) c.requires some c.in-Some.ensures
    (λ all has few. elim (arm.ensures.only all has) [
      | inl e ↦ cc (e, arm.field-0-is)
      | inr past ↦ omega (arith, few, past.1, limit)
    ])).1

pub returns-in-Ok : goal.returns-in-Ok
returns-in-Ok c =
    let some : length c.args.text.now ≢ 0 = λ e. let empty : (length c.args.text.now == 0) ≡ true = rw e refl in cc (empty, c.is_empty.ensures, c.if-is_empty.false) in
    let read = words_read c.args.address c.args.width c.args.text.now c.in-Some.rest.now (λ all. c.in-Ok.words.items ≡ all) c.requires some c.in-Some.ensures (λ all has few. c.in-Ok.ensures.only all has) in
    inr (read.0, sym read.1)
