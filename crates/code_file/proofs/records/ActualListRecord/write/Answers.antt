use Rattle.code_file.proofs.records.ActualListRecord.write.Goals as goal

pub returns : goal.returns
returns c = rw (← c.self.view_is) (rw c.as_slice.ensures.value at c.in_ok-put_section.ensures)
