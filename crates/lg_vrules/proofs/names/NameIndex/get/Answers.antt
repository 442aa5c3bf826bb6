use Rattle.std.proofs.Common.{◌∙◌, ap}
use Rattle.std.specs.BTreeMap.{get_by_text}
use Rattle.lg_vrules.proofs.names.NameIndex.get.Goals as goal

pub returns : goal.returns
returns c = c.copied.ensures ∙ (c.get.ensures.value ∙ ap (get_by_text c.args.self.now.things) c.as_str.ensures.spelling)
