use Rattle.std.proofs.Common.{◌≡◌, ◌∙◌, ◌<◌, ◌≤◌, ◌+◌, ◌^◌, ℕ, List, ◌++◌, sym, ap, subst, arith, rules}
use Rattle.std.specs.Prelude.{IfSome}
use Rattle.centre_store.specs.Followings.{since_of, body_of_number}
use Rattle.mirror_centre.specs.Answers.{answer_at}
use Rattle.mirror_centre.specs.Messages.{answer_text}
use Rattle.mirror_centre.proofs.Answered.{answers_found, answers_with, same_since, never_down}
use Rattle.mirror_centre.proofs.answering.answer.Goals as goal

pub returns-in-Ok-clause-answered : goal.returns-in-Ok-clause-answered
returns-in-Ok-clause-answered g c b h stands =
    let f = c.in_ok-found.found in
    let body : List ℕ = c.bytes.result.now in
    let read : body ≡ c.body.new.out = search rules in
    let given : since_of c.args.store.now < c.args.n + 1 → c.args.n + 1 ≤ c.args.store.now.state.sum.recorded
    → IfSome (g.D.Disk.seen c.args.store.now.journal.disk).told (λ _. body ≡ body_of_number b h (c.args.n + 1)) =
    subst (λ (l : List ℕ). since_of c.args.store.now < c.args.n + 1 → c.args.n + 1 ≤ c.args.store.now.state.sum.recorded
    → IfSome (g.D.Disk.seen c.args.store.now.journal.disk).told (λ _. l ≡ body_of_number b h (c.args.n + 1))) (sym read)
    (c.in_ok-found.ensures.given b h stands) in
    let text : c.put_found.new.out.items ≡ answer_text (answer_at f c.since.result c.args.n body) =
    ◌∙◌ {A = List ℕ} c.in-Ok.ensures (ap (λ (l : List ℕ). l ++ answer_text (answer_at f c.since.result c.args.n body)) c.clear.ensures.items) in
    answers_found g.D.Disk.seen b h c.args.store.now c.body.new.self c.args.n c.since.result c.put_found.new.out.items body f
    c.in_ok-found.ensures.found c.since.ensures.numbers c.body.ensures.state c.body.ensures.same given text

pub returns-in-Ok-clause-answers : goal.returns-in-Ok-clause-answers
returns-in-Ok-clause-answers g c =
    let f = c.in_ok-found.found in
    let body : List ℕ = c.bytes.result.now in
    let read : body ≡ c.body.new.out = search rules in
    let text : c.put_found.new.out.items ≡ answer_text (answer_at f c.since.result c.args.n body) =
    ◌∙◌ {A = List ℕ} c.in-Ok.ensures (ap (λ (l : List ℕ). l ++ answer_text (answer_at f c.since.result c.args.n body)) c.clear.ensures.items) in
    let few : since_of c.args.store.now < 2 ^ 64 =
    subst (λ (n : ℕ). n < 2 ^ 64) (c.since.ensures.numbers ∙ same_since c.args.store.now c.body.new.self c.body.ensures.state c.body.ensures.same)
    (omega (arith, c.since.type_inv)) in
    answers_with g.D.Disk.seen c.args.store.now c.body.new.self c.args.n c.put_found.new.out.items c.requires.few few c.body.ensures.stands c.body.ensures.quiet
    (never_down g.D.Disk.seen c.body.new.self c.body.result f c.in_ok-found.was c.body.ensures.down) c.body.ensures.already
    (λ b h stands. answers_found g.D.Disk.seen b h c.args.store.now c.body.new.self c.args.n c.since.result c.put_found.new.out.items body f
    c.in_ok-found.ensures.found c.since.ensures.numbers c.body.ensures.state c.body.ensures.same
    (subst (λ (l : List ℕ). since_of c.args.store.now < c.args.n + 1 → c.args.n + 1 ≤ c.args.store.now.state.sum.recorded
    → IfSome (g.D.Disk.seen c.args.store.now.journal.disk).told (λ _. l ≡ body_of_number b h (c.args.n + 1))) (sym read)
    (c.in_ok-found.ensures.given b h stands)) text)
