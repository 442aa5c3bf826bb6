use Rattle.std.proofs.Common.{rules}
use Rattle.lg_io.proofs.FilesLemmas.{content_of-named}
use Rattle.lg_io.proofs.mem_files.content_under.Goals as goal

pub returns-in_err-content : goal.returns-in_err-content
returns-in_err-content c = rw content_of-named (search rules)

pub returns : goal.returns
returns c = rw content_of-named (search rules)
