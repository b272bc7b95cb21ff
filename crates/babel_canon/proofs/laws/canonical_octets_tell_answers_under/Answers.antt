use Rattle.babel_table.proofs.SeenLaws.{all_rows}
use Rattle.babel_canon.proofs.Views.{all_normalises, headline_under, seen_answers_tell}
use Rattle.babel_canon.proofs.laws.canonical_octets_tell_answers_under.Goals as goal

pub returns-clause-headline : goal.returns-clause-headline
returns-clause-headline c = headline_under

pub returns-clause-seen : goal.returns-clause-seen
returns-clause-seen c = seen_answers_tell

pub returns-clause-rows : goal.returns-clause-rows
returns-clause-rows c = all_rows

pub returns-clause-all : goal.returns-clause-all
returns-clause-all c = all_normalises
