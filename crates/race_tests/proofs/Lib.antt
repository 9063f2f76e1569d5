mod Grids
