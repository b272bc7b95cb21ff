use Rattle.babel_dump.proofs.output.push_difference.Goals as goal

pub returns-in-Json-clause-text : goal.returns-in-Json-clause-text
returns-in-Json-clause-text c =
    rw c.in-Json.is (rw (c.dst-dst.ensures.value, c.src-src.ensures.value) at c.push_differ_json.ensures.text)
