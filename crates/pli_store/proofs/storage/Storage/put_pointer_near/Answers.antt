use Rattle.pli_store.proofs.storage.Storage.put_pointer_near.Goals as goal

pub put_pointer_in-requires-clause-description : goal.put_pointer_in-requires-clause-description
put_pointer_in-requires-clause-description c = c.requires.pointer

pub put_pointer_in-requires-clause-leads : goal.put_pointer_in-requires-clause-leads
put_pointer_in-requires-clause-leads c = c.requires.leads
