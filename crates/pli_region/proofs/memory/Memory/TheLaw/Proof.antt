-- A reference to memory is made where one to its bytes is. Assumes `Logic`.
use denote.Param.Shared.{copy_shared}
use denote.Struct.Field.{RawPtr-field}
use denote.Struct.Laws.{RawPtr-copy}
use denote.Struct.Lending.{of_Lends}
use Rattle.pli_region.specs.contracts.memory.Memory as M
use Rattle.pli_region.proofs.memory.Memory.TheLaw.Statement.{statement}
use Rattle.pli_region.proofs.Sharing.{lent_laws, Lends-memory}

pub shares : statement
shares = of_Lends M.struct M.the_codes M.the_heap M.the_lent (λ d p. lent_laws d.ptr d.items d.room)
    (copy_shared RawPtr-field RawPtr-copy, tt) (λ X 𝓤 𝓛 d p. Lends-memory 𝓛 (M.the_row).lives d.ptr d.items d.room)
