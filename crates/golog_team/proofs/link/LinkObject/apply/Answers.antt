use Rattle.std.proofs.Common.{[], ◌∷◌, length, sym, ◌∙◌, subst, arith}
use Rattle.golog_team.specs.Notes.{put_by}
use Rattle.golog_team.specs.Links.{Allows, Answers}
use Rattle.golog_team.specs.declared.link.LinkOp.TheVariants.{Put, PutAt}
use Rattle.golog_team.specs.declared.link.LinkReply.TheVariants.{At}
use Rattle.golog_team.proofs.Applied.{put-keeps, put-answers, put-at-keeps, put-at-answers}
use Rattle.golog_team.proofs.link.LinkObject.apply.Goals as goal

pub put-requires : goal.put-requires
put-requires c =
    let p = c.in-Put in
    put-keeps c.args.self.now c.len-length.ensures.lawful p.side p.note (subst (Allows c.args.self.now) p.is c.requires)

pub returns-in-Put : goal.returns-in-Put
returns-in-Put c =
    let p = c.in-Put in (
      put_by p.side p.note ∷ [],
      (
        c.put.ensures.list,
        omega arith,
        subst (λ r. Answers c.args.self.now c.args.op r (put_by p.side p.note ∷ [])) (sym c.put.ensures.at)
            (subst (λ op. Answers c.args.self.now op (At (length c.args.self.now)) (put_by p.side p.note ∷ [])) (sym p.is)
            (put-answers c.args.self.now c.len-length.ensures.lawful p.side p.note (subst (Allows c.args.self.now) p.is c.requires))),
      ),
    )

pub put-requires-then-length-at : goal.put-requires-then-length-at
put-requires-then-length-at c =
    let p = c.in-PutAt in
    put-at-keeps c.args.self.now c.len-length.ensures.lawful p.side p.note p.at (subst (Allows c.args.self.now) p.is c.requires)
    (sym c.len-length.ensures.number ∙ c.if-length-at.true)

pub returns-then-length-at : goal.returns-then-length-at
returns-then-length-at c =
    let p = c.in-PutAt in (
      put_by p.side p.note ∷ [],
      (
        c.put-then-length-at.ensures.list,
        omega arith,
        subst (λ r. Answers c.args.self.now c.args.op r (put_by p.side p.note ∷ [])) (sym c.put-then-length-at.ensures.at)
            (subst (λ op. Answers c.args.self.now op (At (length c.args.self.now)) (put_by p.side p.note ∷ [])) (sym p.is)
            (put-at-answers c.args.self.now c.len-length.ensures.lawful p.side p.note p.at (subst (Allows c.args.self.now) p.is c.requires)
            (sym c.len-length.ensures.number ∙ c.if-length-at.true))),
      ),
    )
