use Rattle.run_laws.proofs.Written.{written}
use Rattle.run_laws.proofs.certificates.written_certificates_pass.Goals as goal

pub returns : goal.returns
returns c = λ words job bytes cert asked right. written c.same_content.ensures words job bytes cert asked right
