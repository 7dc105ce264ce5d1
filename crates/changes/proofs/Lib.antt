mod AdditionReads
mod PatchReads
