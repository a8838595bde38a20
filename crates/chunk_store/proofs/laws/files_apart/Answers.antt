use Rattle.chunk_store.proofs.Apart.{with_itself, with_other}
use Rattle.chunk_store.proofs.laws.files_apart.Goals as goal

pub returns-clause-itself : goal.returns-clause-itself
returns-clause-itself c name chunks files = with_itself name chunks files

pub returns-clause-others : goal.returns-clause-others
returns-clause-others c name other chunks files apart = with_other name other chunks files apart
