use Rattle.rx_cli.proofs.said.say.Goals as goal

pub returns-in-Audit : goal.returns-in-Audit
returns-in-Audit g c = rw c.in-Audit.is (c.said_by_audit.ensures _)

pub returns-in-Explain : goal.returns-in-Explain
returns-in-Explain g c = rw c.in-Explain.is (c.said_to_explain.ensures _)

pub returns-in-Picture : goal.returns-in-Picture
returns-in-Picture g c = rw c.in-Picture.is (c.said_by_picture.ensures _)
