use Rattle.std.proofs.Common.{◌*◌, ◌%◌, ◌^◌, rules}
use Rattle.lg_memory.specs.Form.{IsStoreSize}
use Rattle.lg_ports.proofs.ContentsLemmas.{addresses, contents_read}
use Rattle.lg_ports.proofs.contents.has_contents.Goals as goal

pub returns-in-Some : goal.returns-in-Some
returns-in-Some c =
    let sizes : IsStoreSize c.args.address c.args.width = c.is_store_size.ensures.0 (search rules) in
    contents_read c.args.address c.args.width (1 * 2 ^ c.args.address % 4294967296) c.args.text.now c.in-Some.rest.now c.are_words.result sizes c.in-Some.ensures (addresses c.args.address sizes.1) c.are_words.ensures

pub returns-in-None : goal.returns-in-None
returns-in-None c = (λ t. absurd (search rules), λ h. absurd (c.in-None.ensures h.rest h.widths))
