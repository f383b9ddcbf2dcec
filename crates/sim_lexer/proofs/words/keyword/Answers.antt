use Rattle.sim_lexer.proofs.Tables.{keyword_of_length}
use Rattle.sim_lexer.proofs.words.keyword.Goals as goal

pub returns-in-2 : goal.returns-in-2
returns-in-2 c = record { token = keyword_of_length c.args.word.now 2 c.look_up.result c.in-2.is c.look_up.ensures.token }

pub returns-in-3 : goal.returns-in-3
returns-in-3 c = record { token = keyword_of_length c.args.word.now 3 c.look_up-in-3.result c.in-3.is c.look_up-in-3.ensures.token }

pub returns-in-4 : goal.returns-in-4
returns-in-4 c = record { token = keyword_of_length c.args.word.now 4 c.look_up-in-4.result c.in-4.is c.look_up-in-4.ensures.token }

pub returns-in-5 : goal.returns-in-5
returns-in-5 c = record { token = keyword_of_length c.args.word.now 5 c.look_up-in-5.result c.in-5.is c.look_up-in-5.ensures.token }

pub returns-in-6 : goal.returns-in-6
returns-in-6 c = record { token = keyword_of_length c.args.word.now 6 c.look_up-in-6.result c.in-6.is c.look_up-in-6.ensures.token }

pub returns-in-7 : goal.returns-in-7
returns-in-7 c = record { token = keyword_of_length c.args.word.now 7 c.look_up-in-7.result c.in-7.is c.look_up-in-7.ensures.token }

pub returns-in-8 : goal.returns-in-8
returns-in-8 c = record { token = keyword_of_length c.args.word.now 8 c.look_up-in-8.result c.in-8.is c.look_up-in-8.ensures.token }

pub returns-in-9 : goal.returns-in-9
returns-in-9 c = record { token = keyword_of_length c.args.word.now 9 c.look_up-in-9.result c.in-9.is c.look_up-in-9.ensures.token }

pub returns-in-10 : goal.returns-in-10
returns-in-10 c = record { token = keyword_of_length c.args.word.now 10 c.look_up-in-10.result c.in-10.is c.look_up-in-10.ensures.token }
