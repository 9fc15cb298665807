mod Subset
