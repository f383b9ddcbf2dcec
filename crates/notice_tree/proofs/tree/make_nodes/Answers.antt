use Rattle.std.proofs.Common.{◌≡◌, true, vec_len, is_ok, ◌∙◌, arith, rules}
use Rattle.std.proofs.lemmas.Bool.{cond-true}
use Rattle.notice_tree.proofs.TreeLemmas.{grown_same}
use Rattle.notice_tree.proofs.tree.make_nodes.Goals as goal

pub returns-clause-same : goal.returns-clause-same
returns-clause-same c =
    let ok : is_ok c.resize.result ≡ true = first_of (search rules, cc, grind arith) in
    let len : vec_len c.resize.new.self ≡ c.args.n = c.resize.ensures.len ∙ cond-true (is_ok c.resize.result) c.args.n (vec_len c.args.nodes.now) ok in
    grown_same c.args.nodes.now.items c.resize.new.self.items c.args.n
    (omega (arith, c.args.nodes.now.ok.0)) (omega (arith, c.resize.new.self.ok.0, len))
    (λ k d a b. c.resize.ensures.by_index.0 k d a (omega (arith, c.args.nodes.now.ok.0)))
    (λ k d a b. c.resize.ensures.by_index.1 k d (search rules) (omega (arith, c.args.nodes.now.ok.0, a)) b)
