use Rattle.std.proofs.Common.{inl, inr, ◌≡◌, false, true, refl, sym, ap, arith, length}
use Rattle.sim_driver.specs.Status.{line_text}
use Rattle.sim_driver.specs.declared.status.Status.{Status}
use Rattle.sim_driver.proofs.speaking.write_line.Goals as goal

pub returns-in-Ok-clause-says : goal.returns-in-Ok-clause-says
returns-in-Ok-clause-says g c = inl (record { same = refl; line = rw (sym c.requires) c.in-Ok.ensures.whole; steady = c.in-Ok.ensures.steady })

pub returns-in-Err-clause-says : goal.returns-in-Err-clause-says
returns-in-Err-clause-says g c =
    inr (record {
      ends = c.after_cut.ensures.cut;
      part = (c.in-Err.field-0.written, rw (sym c.requires) c.in-Err.ensures.part);
      rose = c.in-Err.ensures.cause.failed;
      some = λ is.
          let no : false ≡ true = c.in-Err.ensures.sound (omega (arith, ap length c.requires, ap (λ (s : Status). length (line_text s)) is)) in
          cc no;
    })
