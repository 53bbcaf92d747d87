mod Reduction
