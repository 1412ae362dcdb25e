use Rattle.serve_loop.proofs.Parts.{passed}
use Rattle.serve_loop.proofs.buffer.Buffer.pass.Goals as goal

pub returns-clause-rest : goal.returns-clause-rest
returns-clause-rest g c = passed c.args.self.now.bytes.items c.args.self.now.start c.args.used c.args.self.now.end c.requires.used
